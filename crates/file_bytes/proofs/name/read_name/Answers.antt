use Rattle.std.proofs.Common.{◌≡◌, ◌<◌, ◌+◌, ◌++◌, ◌==◌, ◌∷◌, [], ℕ, List, length, drop, get_or, append_assoc, sym, ap}
use Rattle.std.proofs.Common.{◌∙◌, arith}
use Rattle.std.proofs.lemmas.Bool.{cond-false}
use Rattle.std.proofs.lemmas.List.{drop_more}
use Rattle.file_bytes.specs.Read.{name_in}
use Rattle.file_bytes.proofs.Descriptions.{not_zero}
use Rattle.file_bytes.proofs.name.read_name.Goals as goal

-- one byte more of a name
byte_more : (bytes name new : List ℕ) (k : ℕ) → k < length bytes → 0 < get_or bytes k 0
    → name ++ name_in (drop k bytes) ≡ name_in bytes → new ≡ name ++ get_or bytes k 0 ∷ []
    → new ++ name_in (drop (k + 1) bytes) ≡ name_in bytes
byte_more bytes name new k lt some before after =
    let byte : ℕ = get_or bytes k 0 in
    let rest : List ℕ = name_in (drop (k + 1) bytes) in
    ap (λ (l : List ℕ). l ++ rest) after ∙ append_assoc name (byte ∷ []) rest
    ∙ ap (λ (l : List ℕ). name ++ l) (sym (ap name_in (drop_more bytes k 0 lt)
    ∙ cond-false (byte == 0) [] (byte ∷ rest) (not_zero byte (omega (arith, some))))) ∙ before

pub loop-byte-preserved : goal.loop-byte-preserved
loop-byte-preserved c = byte_more c.args.bytes.now c.loop-byte.name.items c.push.new.self.items c.loop-byte.byte-index
    (omega (arith, c.loop-byte-test.true, c.loop-byte.auto.byte-index-end)) (omega arith) c.loop-byte.invariant
    c.in_ok-push.ensures.items
