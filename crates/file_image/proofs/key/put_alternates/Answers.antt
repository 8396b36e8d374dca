use Rattle.std.proofs.Common.{◌≡◌, ◌+◌, ◌<◌, ◌++◌, ◌∷◌, [], ℕ, List, length, take, get_or, All, sym, ap, subst, ◌∙◌}
use Rattle.std.proofs.Common.{append_assoc, arith}
use Rattle.std.specs.List.{flat_map, AllByRecursion}
use Rattle.std.proofs.lemmas.Grind.{flat_map-append}
use Rattle.std.proofs.lemmas.List.{take_all, take_more, append-nil}
use Rattle.std.proofs.lemmas.List.Elements.{All-head, All-tail, All-more}
use Rattle.records.specs.declared.file_spec.AlternateKey.{AlternateKey}
use Rattle.file_image.specs.Spelling.{alternate_bytes, IsAlternateSpelled}
use Rattle.file_image.proofs.key.put_alternates.Goals as goal

-- the bytes of one key more
one_more : (keys : List AlternateKey) (i : ℕ) (d : AlternateKey) (before : List ℕ) → i < length keys
    → before ++ flat_map alternate_bytes (take i keys) ++ alternate_bytes (get_or keys i d)
    ≡ before ++ flat_map alternate_bytes (take (i + 1) keys)
one_more keys i d before within =
    let e : flat_map alternate_bytes (take (i + 1) keys)
    ≡ flat_map alternate_bytes (take i keys) ++ alternate_bytes (get_or keys i d) =
    ap (flat_map alternate_bytes) (take_more keys i d within)
    ∙ flat_map-append alternate_bytes (take i keys) (get_or keys i d ∷ [])
    ∙ ap (λ (bytes : List ℕ). flat_map alternate_bytes (take i keys) ++ bytes)
    (append-nil (alternate_bytes (get_or keys i d))) in
    append_assoc before (flat_map alternate_bytes (take i keys)) (alternate_bytes (get_or keys i d))
    ∙ ap (λ (bytes : List ℕ). before ++ bytes) (sym e)

bytes_more : (keys : List AlternateKey) (i : ℕ) (d : AlternateKey) (before now after : List ℕ) → i < length keys
    → now ≡ before ++ flat_map alternate_bytes (take i keys) → after ≡ now ++ alternate_bytes (get_or keys i d)
    → after ≡ before ++ flat_map alternate_bytes (take (i + 1) keys)
bytes_more keys i d before now after within so_far e =
    e ∙ ap (λ (bytes : List ℕ). bytes ++ alternate_bytes (get_or keys i d)) so_far ∙ one_more keys i d before within

by_recursion : (keys : List AlternateKey) → All IsAlternateSpelled keys → AllByRecursion IsAlternateSpelled keys
by_recursion [] all = tt
by_recursion (one ∷ more) all =
    (All-head IsAlternateSpelled one more all, by_recursion more (All-tail IsAlternateSpelled one more all))

pub loop-key-preserved : goal.loop-key-preserved
loop-key-preserved c = record {
  bytes = bytes_more c.args.keys.now c.loop-key.key-index _ c.put_count.new.out.items _ _ c.loop-key-test.true
      c.loop-key.invariant.bytes c.in_ok-put_alternate.ensures.bytes;
  fits = All-more IsAlternateSpelled c.args.keys.now c.loop-key.key-index _ c.loop-key-test.true
      c.loop-key.invariant.fits c.put_alternate.ensures.fits;
}

pub returns-clause-fits : goal.returns-clause-fits
returns-clause-fits c = by_recursion c.args.keys.now (subst (All IsAlternateSpelled)
    (take_all c.loop-key.key-index c.args.keys.now (omega arith)) c.loop-key.invariant.fits)
