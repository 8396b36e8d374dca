-- A branch does one of its two parts.
use Rattle.std.proofs.Common.{◌≡◌, ℕ, ◌≤◌, ◌<◌, Bool, true, false, refl, arith}
use Rattle.source_tree.specs.State.{State, Outcome}
use Rattle.code_image.specs.declared.code.Code.{Code}
use Rattle.code_image.specs.Points.{Own}
use Rattle.condition_codegen.specs.Fragments.{Fragment, append}
use Rattle.condition_codegen.specs.Meeting.{either_fragment}
use Rattle.codegen.proofs.Blind.{Blind}
use Rattle.codegen.proofs.Doing.{end_of, keeps_all, Does, PartDoes, Sits, within_sits, IsRoom, after, then_comes, wider}
use Rattle.codegen.proofs.Doing.{Repeats}
use Rattle.codegen.proofs.Ways.{Ways, ways}

module _ (whole : Code) (kept : ℕ → Type 0) where
  -- The part that the truth picks, wherever it stands in the branch, within from..to.
  module _ (first second : Fragment) (before part : Code) (w : Ways whole first second before part)
      (sits : Sits whole kept before part)
      (from to : ℕ) (low : from ≤ end_of before) (high : end_of (append before part) ≤ to) (cs : Own) (s : State)
      (o : Outcome) where
    abbrev pub next : ℕ
    next = end_of (append before part)

    -- what a way does
    abbrev pub WayDoes : Fragment → Type 0
    WayDoes way =
        (now : Code) → end_of before ≤ end_of now → end_of (append now (way now)) ≤ next → Sits whole kept now (way now)
        → Does whole kept from to (end_of now) cs s (end_of (append now (way now))) o

    pub first_does : cs.truth ≡ true → WayDoes first → Does whole kept from to (end_of before) cs s next o
    first_does is does =
        let begin = end_of w.inner in
        let end = end_of (append w.inner (first w.inner)) in
        after whole kept from to (end_of before) begin next cs cs s s o (keeps_all kept from to cs) (w.to_first cs s is)
        (then_comes whole kept from to from to begin end next cs s o (omega arith) (omega arith)
        (does w.inner w.first_begins w.first_ends
        (within_sits whole kept before part w.inner (first w.inner) sits w.first_stands w.first_begins w.first_ends))
        (λ ds t. w.from_first ds t))

    pub second_does : cs.truth ≡ false → WayDoes second → Does whole kept from to (end_of before) cs s next o
    second_does is does =
        let begin = end_of w.outer in
        let end = end_of (append w.outer (second w.outer)) in
        after whole kept from to (end_of before) begin next cs cs s s o (keeps_all kept from to cs)
        (w.to_second cs s is)
        (then_comes whole kept from to from to begin end next cs s o (omega arith) (omega arith)
        (does w.outer w.second_begins w.second_ends
        (within_sits whole kept before part w.outer (second w.outer) sits w.second_stands w.second_begins
        w.second_ends)) (λ ds t. w.from_second ds t))

  -- It does the part that the truth picks, where that is known to do so.
  pub either_at : (first second : Fragment) → Blind first → Blind second
      → (before : Code) (cs : Own) (s : State) (o : Outcome)
      → (cs.truth ≡ true → (now : Code) → Sits whole kept now (first now) → PartDoes whole kept now (first now) cs s o)
      → (cs.truth ≡ false → (now : Code) → Sits whole kept now (second now)
      → PartDoes whole kept now (second now) cs s o)
      → Sits whole kept before (either_fragment first second before)
      → PartDoes whole kept before (either_fragment first second before) cs s o
  either_at first second f g before cs s o one two sits = at_truth cs.truth refl
    where
      part : Code
      part = either_fragment first second before

      from : ℕ
      from = end_of before

      to : ℕ
      to = end_of (append before part)

      w : Ways whole first second before part
      w = ways whole first second f g before sits.stands

      at_truth : (truth : Bool) → cs.truth ≡ truth → PartDoes whole kept before part cs s o
      at_truth true is =
          first_does first second before part w sits from to (omega arith) (omega arith) cs s o is (λ now low high here.
          let next = end_of (append now (first now)) in
          wider whole kept (end_of now) next from to (end_of now) next cs s o low high (one is now here))
      at_truth false is =
          second_does first second before part w sits from to (omega arith) (omega arith) cs s o is
          (λ now low high here.
          let next = end_of (append now (second now)) in
          wider whole kept (end_of now) next from to (end_of now) next cs s o low high (two is now here))

  module _ (depth : ℕ) (first second : Fragment) (go : Bool → State → Outcome)
      (one : Repeats whole kept depth (go true) first) (two : Repeats whole kept depth (go false) second) where
    way_does : (before part : Code) → Ways whole first second before part → Sits whole kept before part
        → (truth : Bool) (cs : Own) (s : State)
        → cs.truth ≡ truth → s.budget < depth → IsRoom whole cs → PartDoes whole kept before part cs s (go truth s)
    way_does before part w sits true cs s is below room =
        let from = end_of before in
        let to = end_of (append before part) in
        first_does first second before part w sits from to (omega arith) (omega arith) cs s (go true s) is
        (λ now low high here.
        let next = end_of (append now (first now)) in
        wider whole kept (end_of now) next from to (end_of now) next cs s (go true s) low high
        (one.by now cs s below room here))
    way_does before part w sits false cs s is below room =
        let from = end_of before in
        let to = end_of (append before part) in
        second_does first second before part w sits from to (omega arith) (omega arith) cs s (go false s) is
        (λ now low high here.
        let next = end_of (append now (second now)) in
        wider whole kept (end_of now) next from to (end_of now) next cs s (go false s) low high
        (two.by now cs s below room here))

    -- By the truth at its first instruction it does the first part, or the second, and follows its last `join`.
    pub either_does : Blind first → Blind second → (before : Code) (cs : Own) (s : State) → s.budget < depth
        → IsRoom whole cs
        → Sits whole kept before (either_fragment first second before)
        → PartDoes whole kept before (either_fragment first second before) cs s (go cs.truth s)
    either_does f g before cs s below room sits =
        way_does before (either_fragment first second before) (ways whole first second f g before sits.stands) sits
        cs.truth cs s refl below room
