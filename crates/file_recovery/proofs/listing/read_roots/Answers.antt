use Rattle.std.proofs.Common.{◌≡◌, ◌+◌, ◌++◌, ℕ, suc, List, [], ◌∷◌, length, length-append, ap, ◌∙◌, arith}
use Rattle.file_recovery.specs.Read.{roots_in}
use Rattle.file_recovery.proofs.listing.read_roots.Goals as goal

pub loop-key-preserved : goal.loop-key-preserved
loop-key-preserved c =
    let next : List ℕ = c.alternate_root.result ∷ [] in
    let one : suc c.loop-key.key ≡ c.loop-key.key + 1 = omega arith in
    let many = length-append c.loop-key.roots.items next in
    let pushed : length c.push.new.self.items ≡ length (c.loop-key.roots.items ++ next) =
    ap (λ (l : List ℕ). length l) c.in_ok-push.ensures.items in
    record {
      roots = c.in_ok-push.ensures.items ∙ ap (λ (l : List ℕ). l ++ next) c.loop-key.invariant.roots
          ∙ ap (λ (n : ℕ). roots_in c.loop-key.key c.args.value.now ++ n ∷ []) c.alternate_root.ensures
          ∙ ap (λ (n : ℕ). roots_in n c.args.value.now) one;
      long = omega (arith, many, c.loop-key.invariant.long, pushed);
    }
