-- The turns of a loop.
use Rattle.std.proofs.Common.{◌≡◌, ℕ, zero, suc, ◌+◌, ◌≤◌, ◌<◌, [], length, Some, refl, sym, ap, ◌∙◌, subst, inl, arith}
use Rattle.std.proofs.Common.{length-append, get_or-set_same}
use Rattle.std.specs.Prelude.{slice_get, slice_index}
use Rattle.std.proofs.Math.ListN.{length-set}
use Rattle.std.proofs.lemmas.Option.{slice_get_within}
use Rattle.source_tree.specs.State.{State, Outcome, Done, then_do, spend}
use Rattle.source_tree.specs.Performing.{turns}
use Rattle.code_image.specs.declared.code.Code.{Code}
use Rattle.code_image.specs.declared.instruction.Instruction.TheVariants.{Count, Turn}
use Rattle.code_image.specs.Points.{Own}
use Rattle.condition_codegen.specs.Fragments.{Fragment, append}
use Rattle.codegen.specs.Layout.{loop_begin, turn_end, counted_turn, times_fragment}
use Rattle.condition_codegen.proofs.Fragments.{joined_assoc}
use Rattle.codegen.proofs.Standing.{back, first_stands}
use Rattle.codegen.proofs.Doing.{end_of, setting, keeps_all, keeps_set, Does, PartDoes, Sits, front_sits, back_sits}
use Rattle.codegen.proofs.Doing.{IsRoom, still_room, after, spend_then, then_does, moved_from, stays, count_comes}
use Rattle.codegen.proofs.Doing.{turn_goes_on, turn_goes_back, nothing_does, Repeats}

module _ (whole : Code) (kept : ℕ → Type 0) where
  -- A loop that begins at an address, and whose turns begin at a later one: each does what uses one of the budget and
  -- its body, and keeps the counter.
  module _ (line begin to end depth : ℕ) (go : State → Outcome)
      (turn : slice_get whole.instructions end ≡ Some (Turn (record { number = begin }) to))
      (later : begin < to) (on : to ≤ end) (own : kept begin)
      (once : (cs : Own) (t : State) → t.budget < depth → IsRoom whole cs
      → Does whole kept to end to cs t end (spend line t go)) where
    turn_does : (cs : Own) (s : State) (rest : State → Outcome) → s.budget < depth → IsRoom whole cs
        → ((t : State) (ds : Own) → t.budget ≤ s.budget → IsRoom whole ds → slice_index ds.counters begin ≡ slice_index
        cs.counters begin → Does whole kept begin (end + 1) end ds t (end + 1) (rest t))
        → Does whole kept begin (end + 1) to cs s (end + 1) (spend line s (λ t. then_do (go t) rest))
    turn_does cs s rest below room h =
        subst (Does whole kept begin (end + 1) to cs s (end + 1)) (sym (spend_then s.budget line s go rest))
        (then_does whole kept to end begin (end + 1) to end (end + 1) cs s (spend line s go) rest (omega arith)
        (omega arith)
        (once cs s below room)
        (λ t ds falls keeps.
        h t ds falls (still_room whole kept to end cs ds keeps room) (keeps.by begin own (inl later))))

    -- with its counter at the turns after this one
    loop_does : (more : ℕ) (cs : Own) (s : State) → s.budget < depth → IsRoom whole cs
        → slice_index cs.counters begin ≡ more
        → Does whole kept begin (end + 1) to cs s (end + 1) (turns line (suc more) go s)
    loop_does zero cs s below room holds =
        turn_does cs s (turns line zero go) below room (λ t ds falls wide same.
        after whole kept begin (end + 1) end (end + 1) (end + 1) ds ds t t (Done t) (keeps_all kept begin (end + 1) ds)
        (turn_goes_on whole end begin to ds t turn (same ∙ holds))
        (stays whole kept begin (end + 1) (end + 1) (end + 1) ds t refl))
    loop_does (suc more) cs s below room holds =
        turn_does cs s (turns line (suc more) go) below room (λ t ds falls wide same.
        let es = setting ds begin more in
        let within : begin < length ds.counters =
        (let h = slice_get_within whole.instructions end
        (Turn (record { number = begin }) to) turn in omega (arith, later, on, wide.counters)) in
        after whole kept begin (end + 1) end to (end + 1) ds es t t (turns line (suc more) go t)
        (keeps_set kept begin (end + 1) ds begin more (omega arith) (omega (arith, later, on)))
        (turn_goes_back whole end begin to more ds t turn (same ∙ holds))
        (loop_does more es t (omega arith)
        (record { counters = length-set ds.counters begin more ∙ wide.counters; line = wide.line })
        (get_or-set_same ds.counters begin more 0 within)))

  -- The turns of the loop that begins at this address, with its counter at those after the first.
  pub counted_turn_does : (line depth begin more : ℕ) (go : State → Outcome) (piece : Fragment)
      → Repeats whole kept depth (λ t. spend line t go) piece
      → (before : Code) (cs : Own) (s : State) → begin < end_of before → kept begin → s.budget < depth → IsRoom whole cs
      → slice_index cs.counters begin ≡ more
      → Sits whole kept before (counted_turn begin piece before)
      → Does whole kept begin (end_of (append before (counted_turn begin piece before))) (end_of before) cs s
      (end_of (append before (counted_turn begin piece before))) (turns line (suc more) go s)
  counted_turn_does line depth begin more go piece each before cs s later own below room holds sits =
      let b = piece before in
      let to = end_of before in
      let last = turn_end begin to in
      let end = end_of (append before b) in
      let one : length last.instructions ≡ 1 = refl in
      let on : to ≤ end = omega (arith, length-append before.instructions b.instructions) in
      let inner_ends = length-append (append before b).instructions last.instructions in
      let ends : end + 1 ≡ end_of (append before (append b last)) =
      omega (arith, one, ap end_of (joined_assoc before b last), inner_ends) in
      subst (λ (p : ℕ). Does whole kept begin p to cs s p (turns line (suc more) go s)) ends
      (loop_does line begin to end depth go
      (first_stands whole (append before b) last (Turn (record { number = begin }) to) [] refl
      (back whole before b last sits.stands)) later on own
      (λ es t lt wide. each.by before es t lt wide (front_sits whole kept before b last sits))
      more cs s below room holds)

  -- where a loop begins: a counter of its own, and one for each address
  pub own_counter : (before begin inner : Code) → length begin.instructions ≡ 1
      → Sits whole kept before (append begin inner) → kept (end_of before)
  own_counter before begin inner single sits =
      let l = length-append before.instructions (append begin inner).instructions in
      let m = length-append begin.instructions inner.instructions in
      sits.keeps (end_of before) (omega arith) (omega (arith, l, m, single))

  pub times_does : (line depth count : ℕ) (go : State → Outcome) (piece : Fragment)
      → Repeats whole kept depth (λ t. spend line t go) piece
      → (before : Code) (cs : Own) (s : State) → s.budget < depth → IsRoom whole cs
      → Sits whole kept before (times_fragment count piece before)
      → PartDoes whole kept before (times_fragment count piece before) cs s (turns line count go s)
  times_does line depth zero go piece each before cs s below room sits = nothing_does whole kept before cs s
  times_does line depth (suc more) go piece each before cs s below room sits =
      let begin = end_of before in
      let first = loop_begin more before in
      let inner = append before first in
      let last = counted_turn begin piece inner in
      let part = append first last in
      let count = Count (record { number = begin }) more in
      let to = end_of (append before part) in
      let single : length first.instructions ≡ 1 = refl in
      let starts : end_of inner ≡ begin + 1 =
      omega (arith, single, length-append before.instructions first.instructions) in
      let ends : end_of (append inner last) ≡ to = ap end_of (joined_assoc before first last) in
      let on = length-append inner.instructions last.instructions in
      let here = first_stands whole before part count last.instructions refl sits.stands in
      let within : begin < length cs.counters =
      (let h = slice_get_within whole.instructions begin count here in omega (arith, room.counters)) in
      let ds = setting cs begin more in
      after whole kept begin to begin (begin + 1) to cs ds s s (turns line (suc more) go s)
      (keeps_set kept begin to cs begin more (omega arith) (omega (arith, ends, starts, on)))
      (count_comes whole begin begin more cs s here)
      (moved_from whole kept begin to (begin + 1) (end_of inner) to ds s (turns line (suc more) go s) starts
      (subst (λ (p : ℕ). Does whole kept begin p (end_of inner) ds s p (turns line (suc more) go s)) ends
      (counted_turn_does line depth begin more go piece each inner ds s (omega (arith, starts))
      (own_counter before first last single sits) below
      (record { counters = length-set cs.counters begin more ∙ room.counters; line = room.line })
      (get_or-set_same cs.counters begin more 0 within) (back_sits whole kept before first last sits))))
