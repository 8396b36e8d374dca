use Rattle.std.proofs.Common.{◌≡◌, ◌<◌, ◌+◌, ◌++◌, ◌∷◌, [], Bool, true, false, ℕ, List, length, take, get_or}
use Rattle.std.proofs.Common.{append_assoc, refl, sym, ap, ◌∙◌, arith, if◌then◌else◌}
use mir.Val.{bool_byte}
use Rattle.std.specs.List.{flat_map}
use Rattle.std.proofs.lemmas.List.{take_more, flat_map_more}
use Rattle.records.specs.declared.file_spec.AlternateKey.{AlternateKey}
use Rattle.file_bytes.specs.Description.{place_bytes, key_bytes}
use Rattle.file_bytes.proofs.description_bytes.push_keys.Goals as goal

-- whether equal keys are allowed, as a byte
byte_is : (b : Bool) → bool_byte b ≡ (if b then 1 else 0)
byte_is true = refl
byte_is false = refl

-- the bytes of one key more
key_more : (keys : List AlternateKey) (k : ℕ) (d : AlternateKey) (old out placed new : List ℕ) → k < length keys
    → out ≡ old ++ flat_map key_bytes (take k keys) → placed ≡ out ++ place_bytes (get_or keys k d).place
    → new ≡ placed ++ (if (get_or keys k d).duplicates then 1 else 0) ∷ []
    → new ≡ old ++ flat_map key_bytes (take (k + 1) keys)
key_more keys k d old out placed new lt before place after =
    let key : AlternateKey = get_or keys k d in
    let before_key : List ℕ = old ++ flat_map key_bytes (take k keys) in
    let byte : List ℕ = (if key.duplicates then 1 else 0) ∷ [] in
    after ∙ ap (λ (l : List ℕ). l ++ byte) (place ∙ ap (λ (l : List ℕ). l ++ place_bytes key.place) before)
    ∙ append_assoc before_key (place_bytes key.place) byte
    ∙ flat_map_more key_bytes old (take k keys) key
    ∙ ap (λ l. old ++ flat_map key_bytes l) (sym (take_more keys k d lt))

pub loop-key-preserved : goal.loop-key-preserved
loop-key-preserved c = key_more c.args.keys.now c.loop-key.key-index _ c.args.out.now.items c.loop-key.out.items _ _
    (omega (arith, c.loop-key-test.true, c.loop-key.auto.key-index-end)) c.loop-key.invariant
    c.in_ok-push_place.ensures.bytes
    (c.in_ok-push.ensures.items ∙ ap (λ (n : ℕ). c.push_place.new.out.items ++ n ∷ [])
    (byte_is (get_or c.args.keys.now c.loop-key.key-index _).duplicates))
