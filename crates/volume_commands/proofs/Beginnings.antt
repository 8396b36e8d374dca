-- Beginnings of a text that a writer was given.
use Rattle.std.proofs.Common.{◌≡◌, ℕ, List, [], ◌++◌, length, take, drop, Option, Result, Ok, Err, OnOk, OnErr, sym, ap}
use Rattle.std.proofs.Common.{subst, ◌∙◌, refl, append_assoc, append-nil, take-append-drop}
use Rattle.std.proofs.lemmas.List.{take_at}
use Rattle.std.proofs.KnownBytes.{Appends-trans, Appends-nil, Appends-kept}
use Rattle.std.specs.Io.KnownBytes.{Keeps, Appends}
use Rattle.volume_commands.specs.Output.{AppendsBeginning}

-- what was written is the front of the text
pub begins_at : (a b : Option (List ℕ)) (text front rest : List ℕ) → text ≡ front ++ rest → Appends a b front
    → AppendsBeginning a b text
begins_at a b text front rest split p = (
  length front,
  subst (Appends a b)
      (sym (ap (take (length front)) split ∙ take_at front rest (length front) refl)) p,
)

pub begins_with_nothing : (a b : Option (List ℕ)) (text : List ℕ) → Keeps a b → AppendsBeginning a b text
begins_with_nothing a b text p = (0, Appends-kept a a b [] (Appends-nil a) p)

pub begins_whole : (a b : Option (List ℕ)) (text : List ℕ) → Appends a b text → AppendsBeginning a b text
begins_whole a b text p = begins_at a b text text [] (sym (append-nil text)) p

-- a part was written, and then a beginning of the next one
pub begins_after : (a b c : Option (List ℕ)) (text done next rest : List ℕ) → text ≡ done ++ (next ++ rest)
    → Appends a b done → AppendsBeginning b c next → AppendsBeginning a c text
begins_after a b c text done next rest split p q =
    let front = take q.0 next in
    let tail = drop q.0 next in
    let parts = split
    ∙ ap (λ (l : List ℕ). done ++ (l ++ rest)) (sym (take-append-drop q.0 next))
    ∙ ap (λ (l : List ℕ). done ++ l) (append_assoc front tail rest)
    ∙ sym (append_assoc done front (tail ++ rest)) in
    begins_at a c text (done ++ front) (tail ++ rest) parts (Appends-trans a b c done front p q.1)

-- a fact of each result
pub on_ok : {T E : Type 0} (r : Result T E) (P : Type 0) → P → OnOk r P
on_ok (Ok x) P p = p
on_ok (Err e) P p = tt

pub on_err : {T E : Type 0} (r : Result T E) (P : Type 0) → P → OnErr r P
on_err (Ok x) P p = tt
on_err (Err e) P p = p
