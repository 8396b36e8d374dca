-- What statements do whose paragraphs perform lower ones, and what the whole run does.
use Rattle.std.proofs.Common.{◌≡◌, ℕ, zero, suc, ◌+◌, ◌-◌, ◌≤◌, ◌<◌, Bool, true, false, List, [], ◌∷◌, length, take}
use Rattle.std.proofs.Common.{drop, get_or, Option, Some, None, refl, sym, ap, ◌∙◌, subst, ⊎_elim, inl, inr, arith}
use Rattle.std.proofs.Common.{length-append}
use Rattle.std.specs.Prelude.{◌⊎◌, ◌==◌, slice_get, slice_index}
use Rattle.std.proofs.Math.Nat.{eq-or-lt_of_le}
use Rattle.std.proofs.lemmas.Bool.{cases_lt, ne_eqb, eq-eqb}
use Rattle.std.proofs.lemmas.List.{length-drop}
use Rattle.std.proofs.lemmas.Option.{slice_get_within, slice_get-get_or, get_or_from_slice_get}
use Rattle.source_tree.specs.declared.name.Name.{Name}
use Rattle.source_tree.specs.declared.statement.Statement.{Statement, out-Statement}
use Rattle.source_tree.specs.declared.program.Paragraph.{Paragraph}
use Rattle.source_tree.specs.PerformRules.{range_rules}
use Rattle.source_tree.specs.Places.{LocatedItem}
use Rattle.source_tree.specs.Procedures.{Range, range_of}
use Rattle.source_tree.specs.Setting.{Scope, ProgramContext}
use Rattle.source_tree.specs.State.{State, Outcome, Done, Over, then_do, in_turn, spend_from, spend}
use Rattle.source_tree.specs.Rules.{statement_rules, sentence_rules, paragraph_rules}
use Rattle.source_tree.specs.Meaning.{run_of, exec, sentence, paragraph, range_outcome, range}
use Rattle.source_tree.proofs.StatementRuns.{exec_runs, ranged_runs}
use Rattle.data_instructions.specs.Tables.{IsTables}
use Rattle.data_instructions.specs.Chains.{LiesWhole}
use Rattle.data_instructions.specs.Codes.{data_item}
use Rattle.declarations.proofs.RuleLayers as rules
use Rattle.code_image.specs.declared.code.Code.{Code}
use Rattle.code_image.specs.declared.instruction.Instruction.TheVariants.{Stop, Perform, Back}
use Rattle.code_image.specs.Points.{Return, Own}
use Rattle.code_image.specs.Table.{over, tick_from, perform_at, back_if, back_from, exec_code}
use Rattle.condition_codegen.specs.Fragments.{append, in_order}
use Rattle.codegen.specs.Layout.{range_fragment, statement_fragment, sentence_fragment, start_fragment, back_fragment}
use Rattle.condition_codegen.proofs.Fragments.{joined_assoc}
use Rattle.codegen.proofs.Layers.{statement_is}
use Rattle.codegen.proofs.BlindStatements.{statement_blind}
use Rattle.codegen.proofs.Standing.{front, back, first_stands}
use Rattle.codegen.proofs.Running.{at, one_step}
use Rattle.codegen.proofs.Doing.{end_of, Keeps, keeps_all, Comes, Does, PartDoes, Sits, IsRoom, still_room, steps_to}
use Rattle.codegen.proofs.Doing.{wider, moved_from, Follows, in_order_does}
use Rattle.codegen.proofs.Simulation.{Performs, verb_does}
use Rattle.codegen.proofs.HasFiles.{HasFiles}
use Rattle.codegen.proofs.Procedures.{Laid, below, is_below}

-- ---- what is left of a list

first_dropped : {A : Type 0} (n : ℕ) (xs : List A) (x : A) (rest : List A) → drop n xs ≡ x ∷ rest
    → slice_get xs n ≡ Some x
first_dropped zero [] x rest e = absurd cc
first_dropped zero (y ∷ ys) x rest e = ap (λ l. slice_get l 0) e
first_dropped (suc n) [] x rest e = absurd cc
first_dropped (suc n) (y ∷ ys) x rest e = first_dropped n ys x rest e

rest_dropped : {A : Type 0} (n : ℕ) (xs : List A) (x : A) (rest : List A) → drop n xs ≡ x ∷ rest
    → drop (suc n) xs ≡ rest
rest_dropped zero [] x rest e = absurd cc
rest_dropped zero (y ∷ ys) x rest e = ap (drop 1) e
rest_dropped (suc n) [] x rest e = absurd cc
rest_dropped (suc n) (y ∷ ys) x rest e = rest_dropped n ys x rest e

module _ (whole : Code) where
  -- ---- the end of a paragraph

  module _ (address n : ℕ) (cs : Own) (s : State)
      (here : slice_get whole.instructions address ≡ Some (Back (record { number = n }))) where
    back_step : (entries : List Return) → cs.returns ≡ entries → (k : ℕ)
        → exec_code whole (suc k) (at address cs s) ≡ back_from entries n (exec_code whole k) (at address cs s)
    back_step entries is k =
        one_step whole address cs s (Back (record { number = n })) here k ∙ ap
        (λ (l : List Return). back_from l n (exec_code whole k) (at address cs s)) is

    -- no `perform` is to come back
    back_goes_on : cs.returns ≡ [] → Comes whole address cs s (address + 1) cs s
    back_goes_on none = steps_to whole address (address + 1) cs cs s s (omega arith) (back_step [] none)

    module _ (newest : Return) (older : List Return) (is : cs.returns ≡ newest ∷ older) where
      newest_step : (last : Bool) → (newest.last == n) ≡ last → (k : ℕ)
          → exec_code whole (suc k) (at address cs s) ≡ back_if last (exec_code whole k) newest older (at address cs s)
      newest_step last e k = back_step (newest ∷ older) is k
          ∙ ap (λ (b : Bool). back_if b (exec_code whole k) newest older (at address cs s)) e

      back_passes : (newest.last ≡ n → ⊥) → Comes whole address cs s (address + 1) cs s
      back_passes other =
          steps_to whole address (address + 1) cs cs s s (omega arith) (newest_step false (ne_eqb newest.last n other))

      back_comes : newest.last ≡ n → Comes whole address cs s newest.next (record cs { returns = older }) s
      back_comes same =
          steps_to whole address newest.next cs (record cs { returns = older }) s s (omega arith)
          (newest_step true (eq-eqb newest.last n same))

-- Paragraphs whose PERFORMs perform lower ones.
module _ (whole : Code) (scope : Scope) (has : HasFiles whole scope)
    (entries : (n : ℕ) (one : LocatedItem) → slice_get scope.items n ≡ Some one
    → slice_get whole.tables.items n ≡ Some (data_item one))
    (order : IsTables whole.tables)
    (lie : (n : ℕ) (one : LocatedItem) → slice_get scope.items n ≡ Some one → LiesWhole whole.tables one)
    (all : List Paragraph)
    (laid : Laid whole scope all) (height : ℕ → ℕ)
    (keep : (n : ℕ) (one : Paragraph) → slice_get all n ≡ Some one
    → paragraph_rules scope (below height (height n)) one ≡ [])
    (there : (permits : Range → Bool) (first : Name) (last : Option Name) (one : Range)
    → range_rules permits scope.procedures first last ≡ []
    → range_of scope.procedures first last ≡ Some one → one.last < length all) where
  abbrev around : ProgramContext
  around = record { scope = scope; paragraphs = all }

  -- An address of a paragraph that is as high, or higher.
  record Relies (high k : ℕ) : Type 0 where
    number : ℕ
    higher : high ≤ height number
    begins : end_of (laid.before number) ≤ k
    ends : k < end_of (laid.before (suc number))

  outside : (n m k : ℕ) → (n ≡ m → ⊥) → end_of (laid.before m) ≤ k → k < end_of (laid.before (suc m))
      → (k < end_of (laid.before n)) ⊎ (end_of (laid.before (suc n)) ≤ k)
  outside n m k other from to =
      ⊎_elim (λ (less : n < m). inr (omega (arith, laid.rises (suc n) m (omega arith))))
      (λ (more : m ≤ n). ⊎_elim (λ (same : m ≡ n). absurd (other (sym same)))
      (λ (less : m < n). inl (omega (arith, laid.rises (suc m) n (omega arith)))) (eq-or-lt_of_le more))
      (cases_lt n m)

  -- What a lower paragraph keeps, a higher one relies on.
  raised : (high n : ℕ) (cs ds : Own) → height n < high
      → Keeps (Relies (height n)) (end_of (laid.before n)) (end_of (laid.before (suc n))) cs ds
      → Keeps (Relies high) 0 0 cs ds
  raised high n cs ds lower keeps = record {
    count = keeps.count;
    by = λ k is far.
        let higher = is.higher in
        keeps.by k (record { number = is.number; higher = omega arith; begins = is.begins; ends = is.ends })
        (outside n is.number k (λ e. let same : height n ≡ height is.number =
        ap height e in absurd (omega arith)) is.begins is.ends);
    line = keeps.line;
    returns = keeps.returns;
  }

  -- ---- where a paragraph's sentences and its end stand

  module _ (n : ℕ) (one : Paragraph) (here : slice_get all n ≡ Some one) where
    abbrev first : Code
    first = laid.before n

    abbrev inner : Code
    inner = append first (start_fragment first)

    abbrev sentences : Code
    sentences = in_order (sentence_fragment scope) one.sentences inner

    abbrev last_back : Code
    last_back = back_fragment (length first.starts) (append inner sentences)

    -- the address of its end
    abbrev back_address : ℕ
    back_address = end_of (append inner sentences)

    inner_begins : end_of inner ≡ end_of first
    inner_begins =
        let none : length (start_fragment first).instructions ≡ 0 = refl in
        omega (arith, none, length-append first.instructions (start_fragment first).instructions)

    inner_ends : back_address + 1 ≡ end_of (laid.before (suc n))
    inner_ends =
        let single : length last_back.instructions ≡ 1 = refl in
        omega (
          arith,
          single,
          ap end_of (laid.next n one here),
          ap end_of (joined_assoc first (start_fragment first) (append sentences last_back)),
          ap end_of (joined_assoc inner sentences last_back),
          length-append (append inner sentences).instructions last_back.instructions,
        )

    end_stands : slice_get whole.instructions back_address ≡ Some (Back (record { number = n }))
    end_stands =
        let within = slice_get_within all n one here in
        let st = back whole inner sentences last_back
        (back whole first (start_fragment first) (append sentences last_back) (laid.stands n one here)) in
        first_stands whole (append inner sentences) last_back (Back (record { number = length first.starts })) [] refl
        st
        ∙ ap (λ (k : ℕ). Some (Back (record { number = k }))) (laid.numbered n (omega arith))

    sentences_sit : Sits whole (Relies (height n)) inner sentences
    sentences_sit = record {
      stands = front whole inner sentences last_back
          (back whole first (start_fragment first) (append sentences last_back) (laid.stands n one here));
      keeps = λ k from to. record {
        number = n;
        higher = omega arith;
        begins = omega (arith, inner_begins);
        ends = omega (arith, inner_ends);
      };
    }

  abbrev Follow : ℕ → ℕ → Type 0
  Follow depth high = Follows whole (Relies high) depth (statement_rules scope (below height high)) (exec around depth)
      (statement_fragment scope)

  -- ---- paragraphs, where so much is known of their statements

  module _ (depth : ℕ) (follows : (high : ℕ) → Follow depth high) where
    abbrev run : Statement → State → Outcome
    run = exec around depth

    sentences_follow : (high : ℕ) → Follows whole (Relies high) depth (sentence_rules scope (below height high))
        (sentence run) (sentence_fragment scope)
    sentences_follow high = record {
      by = λ one before cs s kept less room sits.
          in_order_does whole (Relies high) depth (statement_rules scope (below height high)) run
          (statement_fragment scope)
          (follows high) one.statements before cs s kept less room sits;
    }

    -- up to its end
    paragraph_does : (n : ℕ) (one : Paragraph) (here : slice_get all n ≡ Some one) (cs : Own) (s : State)
        → s.budget < depth → IsRoom whole cs
        → Does whole (Relies (height n)) (end_of (laid.before n)) (end_of (laid.before (suc n)))
        (end_of (laid.before n)) cs s
        (back_address n one here) (paragraph run one s)
    paragraph_does n one here cs s less room =
        let kept = Relies (height n) in
        let low = end_of (inner n one here) in
        let high = back_address n one here in
        let from = end_of (laid.before n) in
        let to = end_of (laid.before (suc n)) in
        moved_from whole kept from to from low high cs s (paragraph run one s) (inner_begins n one here)
        (wider whole kept low high from to low high cs s (paragraph run one s) (omega (arith, inner_begins n one here))
        (omega (arith, inner_ends n one here))
        (in_order_does whole kept depth (sentence_rules scope (below height (height n))) (sentence run)
        (sentence_fragment scope)
        (sentences_follow (height n)) one.sentences (inner n one here) cs s
        (keep n one here) less room (sentences_sit n one here)))

    -- ---- a range of paragraphs

    -- The machine does what an outcome says: it comes to the address after a `perform` that stood before these
    -- entries, and what is relied on at this rank is kept; or its run ends so.
    abbrev Walks : ℕ → ℕ → Own → State → ℕ → List Return → Outcome → Type 0
    Walks high address cs s next older (Done t) =
        (ds : Own) × Comes whole address cs s next ds t × Keeps (Relies high) 0 0 (record cs { returns = older }) ds
    Walks high address cs s next older (Over end t) =
        (j : ℕ) × (exec_code whole j (at address cs s) ≡ Some (over end t))

    walks_after : (high address mid next : ℕ) (older : List Return) (cs ds : Own) (s t : State) (o : Outcome)
        → Keeps (Relies high) 0 0 cs ds
        → Comes whole address cs s mid ds t
        → Walks high mid ds t next older o → Walks high address cs s next older o
    walks_after high address mid next older cs ds s t (Done u) keeps c d = (
      d.0,
      record {
        by = λ k. let b = d.1.by k in let a = c.by b.0 in (a.0, a.1 ∙ b.1);
        falls = omega (arith, c.falls, d.1.falls);
      },
      record {
        count = d.2.count ∙ keeps.count;
        by = λ k is far. d.2.by k is far ∙ keeps.by k is far;
        line = λ e. d.2.line (keeps.line e);
        returns = d.2.returns;
      },
    )
    walks_after high address mid next older cs ds s t (Over end u) keeps c d = let a = c.by d.0 in (a.0, a.1 ∙ d.1)

    -- one paragraph, and what goes on at its end
    walks_then : (high n address mid next : ℕ) (older : List Return) (cs : Own) (s : State) (o : Outcome)
        (go : State → Outcome) → height n < high
        → Does whole (Relies (height n)) (end_of (laid.before n)) (end_of (laid.before (suc n))) address cs s mid o
        → ((t : State) (ds : Own) → t.budget ≤ s.budget → (IsRoom whole cs → IsRoom whole ds) → ds.returns ≡ cs.returns
        → Walks high mid ds t next older (go t))
        → Walks high address cs s next older (then_do o go)
    walks_then high n address mid next older cs s (Done t) go lower d h =
        let still =
        still_room whole (Relies (height n)) (end_of (laid.before n)) (end_of (laid.before (suc n))) cs d.0 d.2 in
        walks_after high address mid next older cs d.0 s t (go t) (raised high n cs d.0 lower d.2) d.1
        (h t d.0 d.1.falls still d.2.returns)
    walks_then high n address mid next older cs s (Over end t) go lower d h = d

    range_walks : (more n last next high : ℕ) (rest : List Paragraph) (older : List Return) (cs : Own) (s : State)
        → drop n all ≡ rest
        → last ≡ n + more → last < length all
        → ((q : ℕ) → n ≤ q → q ≤ last → height q < high) → cs.returns ≡ record { last = last; next = next } ∷ older
        → s.budget < depth
        → IsRoom whole cs
        → Walks high (end_of (laid.before n)) cs s next older (in_turn (paragraph run) (take (suc more) rest) s)
    range_walks more n last next high [] older cs s left is within lower newest less room =
        let none : length {A = Paragraph} [] ≡ 0 =
        refl in absurd (omega (arith, none, length-drop n all, ap length left))
    range_walks zero n last next high (one ∷ tail) older cs s left is within lower newest less room =
        let here = first_dropped n all one tail left in
        let entry : Return = record { last = last; next = next } in
        walks_then high n (end_of (laid.before n)) (back_address n one here) next older cs s (paragraph run one s)
        (in_turn (paragraph run) [])
        (lower n (omega arith) (omega arith))
        (paragraph_does n one here cs s less room) (λ t ds falls still same.
        let es = record ds { returns = older } in
        let comes = back_comes whole (back_address n one here) n ds t (end_stands n one here) entry older
        (same ∙ newest) (omega arith) in
        (es, comes, keeps_all (Relies high) 0 0 es))
    range_walks (suc more) n last next high (one ∷ tail) older cs s left is within lower newest less room =
        let here = first_dropped n all one tail left in
        let entry : Return = record { last = last; next = next } in
        let address = back_address n one here in
        walks_then high n (end_of (laid.before n)) address next older cs s (paragraph run one s)
        (in_turn (paragraph run) (take (suc more) tail))
        (lower n (omega arith) (omega arith))
        (paragraph_does n one here cs s less room) (λ t ds falls still same.
        let comes = back_passes whole address n ds t (end_stands n one here) entry older (same ∙ newest)
        (λ (e : last ≡ n). omega (arith, e)) in
        walks_after high address (end_of (laid.before (suc n))) next older ds ds t t
        (in_turn (paragraph run) (take (suc more) tail) t)
        (keeps_all (Relies high) 0 0 ds)
        (subst (λ (p : ℕ). Comes whole address ds t p ds t) (inner_ends n one here) comes)
        (range_walks more (suc n) last next high tail older ds t (rest_dropped n all one tail left)
        (omega arith) within (λ q low up. lower q (omega arith) up) (same ∙ newest) (omega arith) (still room)))

    module _ (high : ℕ) (line : ℕ) (one : Range) (permitted : below height high one ≡ true)
        (forwards : one.first ≤ one.last)
        (within : one.last < length all) (address : ℕ) (cs : Own) (s : State)
        (le : s.budget ≤ depth) (room : IsRoom whole cs) where
      abbrev kept : ℕ → Type 0
      kept = Relies high

      -- where the first paragraph starts
      starts : slice_index whole.starts one.first ≡ end_of (laid.before one.first)
      starts =
          let none : Paragraph = record { name = None; sentences = [] } in
          let here = slice_get-get_or all one.first none (omega arith) in
          get_or_from_slice_get whole.starts one.first (end_of (laid.before one.first)) 0
          (laid.starts one.first (get_or all one.first none) here)

      -- the entry of this `perform`
      abbrev entered : Own
      entered = record cs { returns = record { last = one.last; next = address + 1 } ∷ cs.returns }

      came_back : (t : State) (o : Outcome) → Comes whole address cs s (end_of (laid.before one.first)) entered t
          → Walks high (end_of (laid.before one.first)) entered t (address + 1) cs.returns o
          → Does whole kept address (address + 1) address cs s (address + 1) o
      came_back t (Done u) c d = (
        d.0,
        record {
          by = λ k. let b = d.1.by k in let a = c.by b.0 in (a.0, a.1 ∙ b.1);
          falls = omega (arith, c.falls, d.1.falls);
        },
        record {
          count = d.2.count;
          by = λ k is far. d.2.by k is (inr (omega arith));
          line = d.2.line;
          returns = d.2.returns;
        },
      )
      came_back t (Over end u) c d = let a = c.by d.0 in (a.0, a.1 ∙ d.1)

      perform_from : (left : ℕ) → left ≤ s.budget
          → ((k : ℕ) → exec_code whole (suc k) (at address cs s) ≡ tick_from left line
          (perform_at (exec_code whole k) (slice_index whole.starts one.first) one.last (at address cs s)) s)
          → Does whole kept address (address + 1) address cs s (address + 1)
          (spend_from left line s (range_outcome run all one))
      perform_from zero fewer st = (1, st 0)
      perform_from (suc n) fewer st =
          let t : State = record s { budget = n; line = line } in
          let more = one.last - one.first in
          let count : suc more ≡ one.last + 1 - one.first = omega arith in
          let begin = end_of (laid.before one.first) in
          let walked = range_walks more one.first one.last (address + 1) high (drop one.first all) cs.returns entered t
          refl (omega arith) within
          (λ q low up. is_below height high one.first (one.last + 1 - one.first) q permitted low (omega arith)) refl
          (omega arith)
          (record { counters = room.counters; line = room.line }) in
          came_back t (range_outcome run all one t)
          (steps_to whole address begin cs entered s t (omega arith)
          (λ k. st k ∙ ap (λ (p : ℕ). exec_code whole k (at p entered t)) starts))
          (subst (λ (k : ℕ). Walks high begin entered t (address + 1) cs.returns
          (in_turn (paragraph run) (take k (drop one.first all)) t)) count walked)

      perform_does : slice_get whole.instructions address
          ≡ Some (Perform line (record { number = one.first }) (record { number = one.last }))
          → Does whole kept address (address + 1) address cs s (address + 1) (spend line s (range_outcome run all one))
      perform_does here =
          perform_from s.budget (omega arith)
          (λ k. one_step whole address cs s
          (Perform line (record { number = one.first }) (record { number = one.last })) here k)

    -- those that are lower
    performs : (high : ℕ) → Performs whole (Relies high) (λ (one : Range). one.last < length all) depth
        (below height high) (range_outcome run all)
    performs high = record {
      by = λ line one permitted forwards within before cs s le room st.
          let part = range_fragment line (Some one) before in
          let next : end_of before + 1 ≡ end_of (append before part) =
          sym (length-append before.instructions part.instructions) in
          subst (λ (p : ℕ). Does whole (Relies high) (end_of before) p (end_of before) cs s p
          (spend line s (range_outcome run all one))) next
          (perform_does high line one permitted forwards within (end_of before) cs s le room
          (first_stands whole before part (Perform line (record { number = one.first }) (record { number = one.last }))
          [] refl st));
    }

  -- ---- statements

  statement_does : (depth high : ℕ) → Follow depth high
  statement_does zero high = record { by = λ one before cs s kept less room sits. absurd (omega arith) }
  statement_does (suc depth) high = record {
    by = λ one before cs s kept less room sits.
        let is = statement_is scope one before in
        let now = out-Statement one in
        subst (λ (c : Code). PartDoes whole (Relies high) before c cs s (exec around (suc depth) one s)) (sym is)
        (verb_does whole (Relies high) scope has entries order lie (λ (found : Range). found.last < length all) there
        depth (below height high)
        (statement_rules scope (below height high)) (exec around depth)
        (range_outcome (exec around depth) all) (statement_fragment scope) (statement_does depth high)
        (performs depth (statement_does depth) high)
        (statement_blind scope) (exec_runs around depth)
        (ranged_runs (exec around depth) (exec_runs around depth) all) now.place.line now.verb before cs s
        (sym (rules.statement_is scope (below height high) one) ∙ kept) (omega arith) room
        (subst (Sits whole (Relies high) before) is sits));
  }

  -- ---- the whole run

  -- the machine's run is over as an outcome is told
  abbrev pub Ends : ℕ → Own → State → Outcome → Type 0
  Ends address cs s o = (j : ℕ) × (exec_code whole j (at address cs s) ≡ Some (run_of o))

  then_ends : (kept : ℕ → Type 0) (from to address mid : ℕ) (cs : Own) (s : State) (o : Outcome) (go : State → Outcome)
      → Does whole kept from to address cs s mid o
      → ((t : State) (ds : Own) → t.budget ≤ s.budget → (IsRoom whole cs → IsRoom whole ds) → ds.returns ≡ cs.returns
      → Ends mid ds t (go t))
      → Ends address cs s (then_do o go)
  then_ends kept from to address mid cs s (Done t) go d h =
      let e = h t d.0 d.1.falls (still_room whole kept from to cs d.0 d.2) d.2.returns in let c =
      d.1.by e.0 in (c.0, c.1 ∙ e.1)
  then_ends kept from to address mid cs s (Over end t) go d h = d

  comes_ends : (address mid : ℕ) (cs ds : Own) (s t : State) (o : Outcome) → Comes whole address cs s mid ds t
      → Ends mid ds t o → Ends address cs s o
  comes_ends address mid cs ds s t o comes e = let c = comes.by e.0 in (c.0, c.1 ∙ e.1)

  -- Where no `perform` is to come back, each paragraph goes on to the next. The end of the last one stops.
  pub range_ends : (depth n : ℕ) (rest : List Paragraph) (cs : Own) (s : State) → drop n all ≡ rest → n ≤ length all
      → cs.returns ≡ []
      → s.budget < depth → IsRoom whole cs
      → Ends (end_of (laid.before n)) cs s (range (exec around depth) rest (length rest) s)
  range_ends depth n [] cs s left within none less room =
      let nothing : length {A = Paragraph} [] ≡ 0 = refl in
      let last : length all ≡ n = omega (arith, nothing, length-drop n all, ap length left) in
      let here = subst (λ (k : ℕ). slice_get whole.instructions (end_of (laid.before k)) ≡ Some Stop) last laid.stops in
      (1, one_step whole (end_of (laid.before n)) cs s Stop here 0)
  range_ends depth n (one ∷ tail) cs s left within none less room =
      let here = first_dropped n all one tail left in
      then_ends (Relies (height n)) (end_of (laid.before n)) (end_of (laid.before (suc n))) (end_of (laid.before n))
      (back_address n one here) cs s
      (paragraph (exec around depth) one s)
      (range (exec around depth) tail (length tail))
      (paragraph_does depth (statement_does depth) n one here cs s less room) (λ t ds falls still same.
      comes_ends (back_address n one here) (end_of (laid.before (suc n))) ds ds t t
      (range (exec around depth) tail (length tail) t)
      (subst (λ (p : ℕ). Comes whole (back_address n one here) ds t p ds t) (inner_ends n one here)
      (back_goes_on whole (back_address n one here) n ds t (end_stands n one here) (same ∙ none)))
      (range_ends depth (suc n) tail ds t (rest_dropped n all one tail left) (let lt =
      slice_get_within all n one here in omega arith) (same ∙ none)
      (omega arith) (still room)))
