-- Lists of one part after another.
use Rattle.std.proofs.Common.{◌≡◌, ◌<◌, ◌≤◌, ℕ, zero, suc, Bool, true, false, if◌then◌else◌, List, [], ◌∷◌, ◌++◌}
use Rattle.std.proofs.Common.{length, Ok, refl, sym, ap, ◌∙◌, subst, append_assoc, arith}
use Rattle.tokens.specs.declared.token.Token.{Token}
use Rattle.grammar.specs.declared.fault.Halt.{Halt}
use Rattle.grammar.specs.Parts as g
use Rattle.grammar.specs.Parts.{Part}
use Rattle.grammar.specs.Reading as r
use Rattle.grammar.specs.Reading.{Outcome, Parser, several_from}
use Rattle.grammar.proofs.Looking.{Tests}
use Rattle.grammar.proofs.Outcomes.{Answers, Reached, step, unstep, value, after}

-- what is read is spelled
abbrev pub Sound : {A : Type 0} → (A → Part) → Parser A → Type 0
Sound {A = A} p read = (a : A) (i rest : List Token) → read i ≡ Ok (a, rest) → p a i rest

-- what is spelled is read
abbrev pub Complete : {A : Type 0} → (Halt → Type 0) → (A → Part) → Parser A → Type 0
Complete {A = A} Allowed p read = (a : A) (i rest : List Token) → p a i rest → Answers Allowed (read i) a rest

-- a part takes a token
abbrev pub Shrinks : {A : Type 0} → (A → Part) → Type 0
Shrinks {A = A} p = (a : A) (i rest : List Token) → p a i rest → length rest < length i

-- a part begins so
abbrev pub Starts : {A : Type 0} → (List Token → Bool) → (A → Part) → Type 0
Starts {A = A} begins p = (a : A) (i rest : List Token) → p a i rest → begins i ≡ true

module _ {A : Type 0} (p : A → Part) (begin : Part) where
  pub any_shrinks : Shrinks p → (all : List A) (i rest : List Token) → g.any p begin all i rest → length rest ≤ length i
  any_shrinks each [] i rest s = let e = ap length s.0 in omega arith
  any_shrinks each (a ∷ more) i rest s = let first = each a i s.0 s.1 in let others =
      any_shrinks each more s.0 rest s.2 in omega arith

  pub several_shrinks : Shrinks p → Shrinks (g.several p begin)
  several_shrinks each [] i rest s = absurd s
  several_shrinks each (a ∷ more) i rest s = let first = each a i s.0 s.1 in let others =
      any_shrinks each more s.0 rest s.2 in omega arith

  pub several_starts : (begins : List Token → Bool) → Starts begins p → Starts begins (g.several p begin)
  several_starts begins each [] i rest s = absurd s
  several_starts begins each (a ∷ more) i rest s = each a i s.0 s.1

module _ {A : Type 0} (p : A → Part) (read : Parser A) (begin : Part) (begins : List Token → Bool)
    (tests : Tests begin begins) where
  Read : List A → List A → List Token → List Token → Type 0
  Read found all i rest = (more : List A) × (all ≡ found ++ more) × g.several p begin more i rest

  sound_from : Sound p read → (turns : ℕ) (found : List A) (i : List Token) (all : List A) (rest : List Token)
      → several_from read begins turns found i ≡ Ok (all, rest) → Read found all i rest
  unfolding several_from Read
  sound_from each zero found i all rest e = cc
  sound_from each (suc turns) found i all rest e =
      unstep (read i) _ e (λ a middle is next.
      go (λ f j. sound_from each turns f j all rest) a middle (each a i middle is) (begins middle) refl next)
    where
      as_any : (more : List A) (j : List Token) → g.several p begin more j rest → g.any p begin more j rest
      as_any [] j s = absurd s
      as_any (b ∷ more) j s = s

      go : ((f : List A) (j : List Token) → several_from read begins turns f j ≡ Ok (all, rest) → Read f all j rest)
          → (a : A) (middle : List Token) → p a i middle → (b : Bool) → begins middle ≡ b
          → (if b then several_from read begins turns (found ++ a ∷ []) middle else Ok (found ++ a ∷ [], middle))
          ≡ Ok (all, rest)
          → Read found all i rest
      go again a middle here true b e =
          let m = again (found ++ a ∷ []) middle e in
          (a ∷ m.0, m.1 ∙ append_assoc found (a ∷ []) m.0, (middle, here, as_any m.0 middle m.2))
      go again a middle here false b e = (a ∷ [], sym (value e), (middle, here, (after e, tests.fails middle b)))

  pub several_sound : Sound p read → Sound (g.several p begin) (r.several read begins)
  unfolding r.several Read
  several_sound each all i rest e =
      let m = sound_from each (length i) [] i all rest e in
      subst (λ x. g.several p begin x i rest) (sym m.1) m.2

  pub any_sound : Sound p read → Sound (g.any p begin) (r.any read begins)
  unfolding r.any
  any_sound each all i rest e = go (begins i) refl e
    where
      as_any : (all : List A) → g.several p begin all i rest → g.any p begin all i rest
      as_any [] s = absurd s
      as_any (b ∷ more) s = s

      go : (b : Bool) → begins i ≡ b → (if b then r.several read begins i else Ok ([], i)) ≡ Ok (all, rest)
          → g.any p begin all i rest
      go true is e = as_any all (several_sound each all i rest e)
      go false is e = subst (λ x. g.any p begin x i rest) (value e) (after e, tests.fails i is)

  module _ (Allowed : Halt → Type 0) (each : Complete Allowed p read) (smaller : Shrinks p)
      (start : Starts begins p) where
    complete_from : (all : List A) (turns : ℕ) (found : List A) (i rest : List Token) → g.several p begin all i rest
        → length i ≤ turns
        → Answers Allowed (several_from read begins turns found i) (found ++ all) rest
    unfolding several_from
    complete_from [] turns found i rest s enough = absurd s
    complete_from (a ∷ more) zero found i rest s enough = let less = smaller a i s.0 s.1 in absurd (omega arith)
    complete_from (a ∷ []) (suc turns) found i rest s enough =
        step (read i) _ (each a i s.0 s.1)
        (Reached (rw (tests.refuses s.0 s.2.1) (ap (λ x. Ok (found ++ a ∷ [], x)) s.2.0)))
    complete_from (a ∷ b ∷ more) (suc turns) found i rest s enough =
        let less = smaller a i s.0 s.1 in
        let goes_on = start b s.0 s.2.0 s.2.1 in
        step (read i) _ (each a i s.0 s.1) (rw goes_on (
        rw append_assoc at (complete_from (b ∷ more) turns (found ++ a ∷ []) s.0 rest s.2 (omega arith))))

    pub several_complete : Complete Allowed (g.several p begin) (r.several read begins)
    unfolding r.several
    several_complete all i rest s = complete_from all (length i) [] i rest s (omega arith)

    pub any_complete : Complete Allowed (g.any p begin) (r.any read begins)
    unfolding r.any
    any_complete [] i rest s = Reached (rw (tests.refuses i s.1) (ap (λ x. Ok ([], x)) s.0))
    any_complete (a ∷ more) i rest s = rw (start a i s.0 s.1) (several_complete (a ∷ more) i rest s)
