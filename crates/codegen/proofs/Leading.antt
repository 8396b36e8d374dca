-- Where the ways of parts of code lead, and what they name.
use Rattle.std.proofs.Common.{◌≡◌, ℕ, zero, suc, ◌+◌, ◌-◌, ◌≤◌, List, [], ◌∷◌, ◌++◌, length, Option, Some, None, refl}
use Rattle.std.proofs.Common.{sym, ap, ◌∙◌, subst, inl, inr, ⊎_elim, arith, append_assoc, length-append}
use Rattle.std.specs.Prelude.{◌⊎◌, slice_get, take}
use Rattle.std.specs.List.{AllByRecursion}
use Rattle.records.specs.declared.verb.Verb.{Verb}
use Rattle.source_tree.specs.Places.{LocatedItem}
use Rattle.source_tree.specs.Procedures.{Range}
use Rattle.code_image.specs.declared.code.Code.{Code}
use Rattle.code_image.specs.declared.instruction.Instruction.{Instruction}
use Rattle.code_image.specs.declared.instruction.Instruction.TheVariants.{Tick, Show, Stop, Count, CountNumber, Turn}
use Rattle.code_image.specs.declared.instruction.Instruction.TheVariants.{Accept, Date, Branch, Jump, Join, Perform}
use Rattle.code_image.specs.declared.instruction.Instruction.TheVariants.{Back, File, TestStatus, Unheard, Data}
use Rattle.code_image.specs.Demands.{NamesCounter, UsesBudget, IsJoin, back_count, ends_in, paragraph_at, Stays}
use Rattle.code_image.specs.Demands.{LeadsOn, JumpsBack, HasValidTargets, AllLead}
use Rattle.condition_codegen.specs.Fragments.{Fragment, empty_code, append, sequence, plain_code}
use Rattle.condition_codegen.specs.Meeting.{branch_code, jump_code, join_code, either_fragment}
use Rattle.codegen.proofs.Standing.{at_seam}
use Rattle.codegen.proofs.Blind.{Blind}
use Rattle.codegen.proofs.Either.{either_laid}
use Rattle.data_instructions.specs.Tables.{IsInspection}
use Rattle.condition_codegen.proofs.Lists.{all_both}
use Rattle.codegen.proofs.Straight.{IsSent, IsStraight, IsPartOf, Straight}

pub all_weaker : {A : Type 0} (P Q : A → Type 0) → ((x : A) → P x → Q x) → (xs : List A) → AllByRecursion P xs
    → AllByRecursion Q xs
all_weaker P Q from [] all = tt
all_weaker P Q from (x ∷ xs) all = (from x all.0, all_weaker P Q from xs all.1)

pub more_counters : (m n : ℕ) (one : Instruction) → m ≤ n → NamesCounter m one → NamesCounter n one
more_counters m n (Tick line) le h = tt
more_counters m n Show le h = tt
more_counters m n Stop le h = tt
more_counters m n (Count counter turns) le h = omega arith
more_counters m n (CountNumber counter) le h = omega arith
more_counters m n (Turn counter to) le h = omega arith
more_counters m n (Data one) le h = tt
more_counters m n Accept le h = tt
more_counters m n Date le h = tt
more_counters m n (Branch to) le h = tt
more_counters m n (Jump to) le h = tt
more_counters m n Join le h = tt
more_counters m n (Perform line first last) le h = tt
more_counters m n (Back paragraph) le h = tt
more_counters m n (File file verb) le h = tt
more_counters m n (TestStatus class) le h = tt
more_counters m n Unheard le h = tt

-- ---- code paragraphs

pub ends_append : (xs ys : List Instruction) → ends_in (xs ++ ys) ≡ ends_in xs + ends_in ys
ends_append [] ys = let e : 0 + ends_in ys ≡ ends_in ys = omega arith in sym e
ends_append (x ∷ xs) ys =
    let h = ends_append xs ys in
    let e : back_count x + (ends_in xs + ends_in ys) ≡ (back_count x + ends_in xs) + ends_in ys = omega arith in
    ap (λ n. back_count x + n) h ∙ e

pub none_end : (xs ys : List Instruction) → ends_in xs ≡ 0 → ends_in ys ≡ 0 → ends_in (xs ++ ys) ≡ 0
none_end xs ys e f = omega (arith, e, f, ends_append xs ys)

none_taken : (k : ℕ) (xs : List Instruction) → ends_in xs ≡ 0 → ends_in (take k xs) ≡ 0
none_taken zero xs e = refl
none_taken (suc k) [] e = refl
none_taken (suc k) (x ∷ xs) e = let h = none_taken k xs (omega (arith, e)) in omega (arith, e, h)

-- as many end before an address after these as in them, and before it after them
pub taken_behind : (xs ys : List Instruction) (k : ℕ)
    → ends_in (take (length xs + k) (xs ++ ys)) ≡ ends_in xs + ends_in (take k ys)
taken_behind [] ys k =
    let e : 0 + k ≡ k = omega arith in
    let f : 0 + ends_in (take k ys) ≡ ends_in (take k ys) = omega arith in
    ap (λ n. ends_in (take n ys)) e ∙ sym f
taken_behind (x ∷ xs) ys k =
    let e : length (x ∷ xs) + k ≡ suc (length xs + k) = omega arith in
    let f : back_count x + (ends_in xs + ends_in (take k ys)) ≡ (back_count x + ends_in xs) + ends_in (take k ys) =
    omega arith in
    ap (λ n. ends_in (take n (x ∷ (xs ++ ys)))) e ∙ ap (λ n. back_count x + n) (taken_behind xs ys k) ∙ f

taken_front : (xs ys : List Instruction) (k : ℕ) → k ≤ length xs → take k (xs ++ ys) ≡ take k xs
taken_front xs ys zero le = refl
taken_front [] ys (suc k) le = absurd (omega (arith, le))
taken_front (x ∷ xs) ys (suc k) le = ap (λ l. x ∷ l) (taken_front xs ys k (omega (arith, le)))

-- the code paragraph of an address stays the same, whatever follows
pub paragraph_stays : (xs ys : List Instruction) (k : ℕ) → k ≤ length xs → paragraph_at (xs ++ ys) k ≡ paragraph_at xs k
paragraph_stays xs ys k le = ap ends_in (taken_front xs ys k le)

-- and along a part in which none ends it is that of the part's begin
pub paragraph_within : (xs ys : List Instruction) (k : ℕ) → ends_in ys ≡ 0 → length xs ≤ k
    → paragraph_at (xs ++ ys) k ≡ ends_in xs
paragraph_within xs ys k none le =
    let m : ℕ = k - length xs in
    let e : k ≡ length xs + m = omega (arith, le) in
    let f : ends_in xs + 0 ≡ ends_in xs = omega arith in
    ap (paragraph_at (xs ++ ys)) e ∙ taken_behind xs ys m ∙ ap (λ n. ends_in xs + n) (none_taken m ys none) ∙ f

pub stays_within : (whole xs ys : List Instruction) (address to : ℕ) → whole ≡ xs ++ ys → ends_in ys ≡ 0
    → length xs ≤ address → length xs ≤ to
    → Stays whole address to
stays_within whole xs ys address to is none from le =
    ap (λ l. paragraph_at l to) is ∙ paragraph_within xs ys to none le
    ∙ sym (ap (λ l. paragraph_at l address) is ∙ paragraph_within xs ys address none from)

-- ---- where ways lead

-- the ways of these instructions, which stand in the whole from this address on, lead where they may
abbrev pub LeadsFrom : List Instruction → ℕ → List Instruction → Type 0
LeadsFrom whole address [] = Unit {0}
LeadsFrom whole address (i ∷ is) = HasValidTargets whole address (Some i) × LeadsFrom whole (address + 1) is

-- what stands at an address stays there, whatever follows
pub found_stays : (P : Option Instruction → Type 0) → (P None → ⊥) → (xs ys : List Instruction) (k : ℕ)
    → P (slice_get xs k)
    → P (slice_get (xs ++ ys) k)
found_stays P none [] ys k h = absurd (none h)
found_stays P none (x ∷ xs) ys zero h = h
found_stays P none (x ∷ xs) ys (suc k) h = found_stays P none xs ys k h

found_within : (P : Option Instruction → Type 0) → (P None → ⊥) → (xs : List Instruction) (k : ℕ) → P (slice_get xs k)
    → suc k ≤ length xs
found_within P none [] k h = absurd (none h)
found_within P none (x ∷ xs) zero h = omega arith
found_within P none (x ∷ xs) (suc k) h = let le = found_within P none xs k h in omega (arith, le)

way_within : (xs ys : List Instruction) (address to : ℕ) → address ≤ length xs → to ≤ length xs → Stays xs address to
    → Stays (xs ++ ys) address to
way_within xs ys address to from le h = paragraph_stays xs ys to le ∙ h ∙ sym (paragraph_stays xs ys address from)

on_stays : (xs ys : List Instruction) (address to : ℕ) → address ≤ length xs → LeadsOn xs address to
    → LeadsOn (xs ++ ys) address to
on_stays xs ys address to from h =
    let le = found_within IsJoin (λ none. none) xs (to - 1) h.join in
    record {
      later = h.later;
      join = found_stays IsJoin (λ none. none) xs ys (to - 1) h.join;
      stays = way_within xs ys address to from (omega (arith, le)) h.stays;
    }

back_stays : (xs ys : List Instruction) (address to : ℕ) → address ≤ length xs → JumpsBack xs address to
    → JumpsBack (xs ++ ys) address to
back_stays xs ys address to from h =
    let le = found_within UsesBudget (λ none. none) xs to h.budget in
    record {
      before = h.before;
      budget = found_stays UsesBudget (λ none. none) xs ys to h.budget;
      stays = way_within xs ys address to from (omega (arith, le)) h.stays;
    }

way_stays : (xs ys : List Instruction) (address to : ℕ) → address ≤ length xs
    → LeadsOn xs address to ⊎ JumpsBack xs address to
    → LeadsOn (xs ++ ys) address to ⊎ JumpsBack (xs ++ ys) address to
way_stays xs ys address to from h =
    ⊎_elim (λ on. inl (on_stays xs ys address to from on)) (λ back. inr (back_stays xs ys address to from back)) h

leads_stay : (xs ys : List Instruction) (address : ℕ) (i : Instruction) → address ≤ length xs
    → HasValidTargets xs address (Some i)
    → HasValidTargets (xs ++ ys) address (Some i)
leads_stay xs ys address (Tick line) from h = tt
leads_stay xs ys address Show from h = tt
leads_stay xs ys address Stop from h = tt
leads_stay xs ys address (Count counter turns) from h = tt
leads_stay xs ys address (CountNumber counter) from h = tt
leads_stay xs ys address (Turn counter to) from h = back_stays xs ys address to from h
leads_stay xs ys address Accept from h = tt
leads_stay xs ys address Date from h = tt
leads_stay xs ys address (Branch to) from h = way_stays xs ys address to from h
leads_stay xs ys address (Jump to) from h = way_stays xs ys address to from h
leads_stay xs ys address Join from h = tt
leads_stay xs ys address (Perform line first last) from h = tt
leads_stay xs ys address (Back paragraph) from h = h ∙ sym (paragraph_stays xs ys address from)
leads_stay xs ys address (File file verb) from h = tt
leads_stay xs ys address (TestStatus class) from h = tt
leads_stay xs ys address Unheard from h = tt
leads_stay xs ys address (Data one) from h = tt

pub all_stay : (xs ys : List Instruction) (address : ℕ) (is : List Instruction) → address + length is ≤ length xs
    → LeadsFrom xs address is
    → LeadsFrom (xs ++ ys) address is
all_stay xs ys address [] le h = tt
all_stay xs ys address (i ∷ is) le h =
    (leads_stay xs ys address i (omega (arith, le)) h.0, all_stay xs ys (address + 1) is (omega (arith, le)) h.1)

pub both_lead : (whole : List Instruction) (address : ℕ) (xs ys : List Instruction) → LeadsFrom whole address xs
    → LeadsFrom whole (address + length xs) ys → LeadsFrom whole address (xs ++ ys)
both_lead whole address [] ys a b = let e : address + 0 ≡ address = omega arith in subst (λ p. LeadsFrom whole p ys) e b
both_lead whole address (x ∷ xs) ys a b =
    let e : address + length (x ∷ xs) ≡ address + 1 + length xs = omega arith in
    (a.0, both_lead whole (address + 1) xs ys a.1 (subst (λ p. LeadsFrom whole p ys) e b))

leads_at : (whole : List Instruction) (address : ℕ) (is : List Instruction) → LeadsFrom whole address is → (k : ℕ)
    → HasValidTargets whole (address + k) (slice_get is k)
leads_at whole address [] h k = tt
leads_at whole address (i ∷ is) h zero = let e : address ≡ address + 0 =
    omega arith in subst (λ p. HasValidTargets whole p (Some i)) e h.0
leads_at whole address (i ∷ is) h (suc k) =
    let e : address + 1 + k ≡ address + suc k =
    omega arith in subst (λ p. HasValidTargets whole p (slice_get is k)) e (leads_at whole (address + 1) is h.1 k)

pub all_lead : (whole : List Instruction) → LeadsFrom whole 0 whole → AllLead whole
all_lead whole h =
    λ address within. let e : 0 + address ≡ address =
    omega arith in subst (λ p. HasValidTargets whole p (slice_get whole address)) e
    (leads_at whole 0 whole h address)

-- ---- parts

-- A part names counters that stand before it or in it. It adds no area and no file, parts of these items, senders that
-- have their bytes, and inspections that have their texts.
pub record Names (items : List LocatedItem) (before part : Code) : Type 0 where
  pub counters : AllByRecursion (NamesCounter (length before.instructions + length part.instructions)) part.instructions
  pub areas : part.tables.areas ≡ []
  pub entries : AllByRecursion (IsPartOf items) part.tables.items
  pub files : part.files ≡ []
  pub senders : AllByRecursion IsSent part.tables.senders
  pub inspections : AllByRecursion IsInspection part.tables.inspections

pub both_name : {items : List LocatedItem} (before a b : Code) → Names items before a
    → Names items (append before a) b → Names items before (append a b)
both_name {items} before a b f s =
    let i1 = length-append before.instructions a.instructions in
    let i2 = length-append a.instructions b.instructions in
    record {
      counters = all_both (NamesCounter (length before.instructions + length (a.instructions ++ b.instructions)))
          a.instructions b.instructions
          (all_weaker (NamesCounter (length before.instructions + length a.instructions))
          (NamesCounter (length before.instructions + length (a.instructions ++ b.instructions)))
          (λ one h. more_counters _ _ one (omega (arith, i2)) h) a.instructions f.counters)
          (all_weaker (NamesCounter (length (before.instructions ++ a.instructions) + length b.instructions))
          (NamesCounter (length before.instructions + length (a.instructions ++ b.instructions)))
          (λ one h. more_counters _ _ one (omega (arith, i1, i2)) h) b.instructions s.counters);
      areas = ap (λ l. l ++ b.tables.areas) f.areas ∙ s.areas;
      entries = all_both (IsPartOf items) a.tables.items b.tables.items f.entries s.entries;
      files = ap (λ l. l ++ b.files) f.files ∙ s.files;
      senders = all_both IsSent a.tables.senders b.tables.senders f.senders s.senders;
      inspections = all_both IsInspection a.tables.inspections b.tables.inspections f.inspections s.inspections;
    }

-- instructions that name nothing new
pub plain_names : {items : List LocatedItem} (before : Code) (all : List Instruction)
    → AllByRecursion (NamesCounter (length before.instructions + length all)) all
    → Names items before (plain_code all)
plain_names before all counters =
    record { counters = counters; areas = refl; entries = tt; files = refl; senders = tt; inspections = tt }

-- What is asked of ranges that are performed, and of the verbs of file statements, by the numbers of their files; and
-- the items that code names.
pub record Asks : Type 1 where
  pub items : List LocatedItem
  pub ranges : Range → Type 0
  pub verbs : ℕ → Verb → Type 0

-- What is performed and what is done to files is so.
abbrev pub PerformsOnly : Asks → Instruction → Type 0
PerformsOnly Q (Perform line first last) = Q.ranges (record { first = first.number; last = last.number })
PerformsOnly Q (File file verb) = Q.verbs file.number verb
PerformsOnly Q (TestStatus class) = Unit {0}
PerformsOnly Q Unheard = Unit {0}
PerformsOnly Q (Tick line) = Unit {0}
PerformsOnly Q Show = Unit {0}
PerformsOnly Q Stop = Unit {0}
PerformsOnly Q (Count counter turns) = Unit {0}
PerformsOnly Q (CountNumber counter) = Unit {0}
PerformsOnly Q (Turn counter to) = Unit {0}
PerformsOnly Q Accept = Unit {0}
PerformsOnly Q Date = Unit {0}
PerformsOnly Q (Branch to) = Unit {0}
PerformsOnly Q (Jump to) = Unit {0}
PerformsOnly Q Join = Unit {0}
PerformsOnly Q (Back paragraph) = Unit {0}
PerformsOnly Q (Data one) = Unit {0}

-- Its ways lead where they may. No code paragraph starts or ends in it, and what it performs and does to files is `Q`.
pub record Meets (Q : Asks) (before part : Code) : Type 0 where
  pub names : Names Q.items before part
  pub leads : LeadsFrom (before.instructions ++ part.instructions) (length before.instructions) part.instructions
  pub starts : part.starts ≡ []
  pub none : ends_in part.instructions ≡ 0
  pub performs : AllByRecursion (PerformsOnly Q) part.instructions

-- the ways of two parts lead where they may
pub both_ways : (before a b : Code)
    → LeadsFrom (before.instructions ++ a.instructions) (length before.instructions) a.instructions
    → LeadsFrom ((before.instructions ++ a.instructions) ++ b.instructions)
    (length (before.instructions ++ a.instructions)) b.instructions
    → LeadsFrom (before.instructions ++ (a.instructions ++ b.instructions)) (length before.instructions)
    (a.instructions ++ b.instructions)
both_ways before a b f s =
    let whole = (before.instructions ++ a.instructions) ++ b.instructions in
    let n = length-append before.instructions a.instructions in
    subst (λ (w : List Instruction). LeadsFrom w (length before.instructions) (a.instructions ++ b.instructions))
    (append_assoc before.instructions a.instructions b.instructions)
    (both_lead whole (length before.instructions) a.instructions b.instructions
    (all_stay (before.instructions ++ a.instructions) b.instructions (length before.instructions) a.instructions
    (omega (arith, n)) f)
    (subst (λ p. LeadsFrom whole p b.instructions) n s))

-- ---- straight code

names_none : (n : ℕ) (one : Instruction) → IsStraight one → NamesCounter n one
names_none n (Data one) h = tt
names_none n Show h = tt
names_none n Accept h = tt
names_none n Date h = tt
names_none n (Tick line) h = absurd h
names_none n Stop h = absurd h
names_none n (Count counter turns) h = absurd h
names_none n (CountNumber counter) h = absurd h
names_none n (Turn counter to) h = absurd h
names_none n (Branch to) h = absurd h
names_none n (Jump to) h = absurd h
names_none n Join h = absurd h
names_none n (Perform line first last) h = absurd h
names_none n (Back paragraph) h = absurd h
names_none n (File file verb) h = absurd h
names_none n (TestStatus class) h = absurd h
names_none n Unheard h = absurd h

leads_nowhere : (whole : List Instruction) (address : ℕ) (one : Instruction) → IsStraight one
    → HasValidTargets whole address (Some one)
leads_nowhere whole address (Data one) h = tt
leads_nowhere whole address Show h = tt
leads_nowhere whole address Accept h = tt
leads_nowhere whole address Date h = tt
leads_nowhere whole address (Tick line) h = absurd h
leads_nowhere whole address Stop h = absurd h
leads_nowhere whole address (Count counter turns) h = absurd h
leads_nowhere whole address (CountNumber counter) h = absurd h
leads_nowhere whole address (Turn counter to) h = absurd h
leads_nowhere whole address (Branch to) h = absurd h
leads_nowhere whole address (Jump to) h = absurd h
leads_nowhere whole address Join h = absurd h
leads_nowhere whole address (Perform line first last) h = absurd h
leads_nowhere whole address (Back paragraph) h = absurd h
leads_nowhere whole address (File file verb) h = absurd h
leads_nowhere whole address (TestStatus class) h = absurd h
leads_nowhere whole address Unheard h = absurd h

ends_nowhere : (one : Instruction) → IsStraight one → back_count one ≡ 0
ends_nowhere (Data one) h = refl
ends_nowhere Show h = refl
ends_nowhere Accept h = refl
ends_nowhere Date h = refl
ends_nowhere (Tick line) h = absurd h
ends_nowhere Stop h = absurd h
ends_nowhere (Count counter turns) h = absurd h
ends_nowhere (CountNumber counter) h = absurd h
ends_nowhere (Turn counter to) h = absurd h
ends_nowhere (Branch to) h = absurd h
ends_nowhere (Jump to) h = absurd h
ends_nowhere Join h = absurd h
ends_nowhere (Perform line first last) h = absurd h
ends_nowhere (Back paragraph) h = absurd h
ends_nowhere (File file verb) h = absurd h
ends_nowhere (TestStatus class) h = absurd h
ends_nowhere Unheard h = absurd h

performs_none : (Q : Asks) (one : Instruction) → IsStraight one → PerformsOnly Q one
performs_none Q (Data one) h = tt
performs_none Q Show h = tt
performs_none Q Accept h = tt
performs_none Q Date h = tt
performs_none Q (Tick line) h = absurd h
performs_none Q Stop h = absurd h
performs_none Q (Count counter turns) h = absurd h
performs_none Q (CountNumber counter) h = absurd h
performs_none Q (Turn counter to) h = absurd h
performs_none Q (Branch to) h = absurd h
performs_none Q (Jump to) h = absurd h
performs_none Q Join h = absurd h
performs_none Q (Perform line first last) h = absurd h
performs_none Q (Back paragraph) h = absurd h
performs_none Q (File file verb) h = absurd h
performs_none Q (TestStatus class) h = absurd h
performs_none Q Unheard h = absurd h

straight_leads : (whole : List Instruction) (address : ℕ) (all : List Instruction) → AllByRecursion IsStraight all
    → LeadsFrom whole address all
straight_leads whole address [] h = tt
straight_leads whole address (one ∷ more) h =
    (leads_nowhere whole address one h.0, straight_leads whole (address + 1) more h.1)

straight_none : (all : List Instruction) → AllByRecursion IsStraight all → ends_in all ≡ 0
straight_none [] h = refl
straight_none (one ∷ more) h =
    let e = ends_nowhere one h.0 in
    let f = straight_none more h.1 in
    omega (arith, e, f)

module _ (Q : Asks) where
  pub both_meet : (before a b : Code) → Meets Q before a → Meets Q (append before a) b → Meets Q before (append a b)
  both_meet before a b f s = record {
    names = both_name before a b f.names s.names;
    leads = both_ways before a b f.leads s.leads;
    starts = ap (λ l. l ++ b.starts) f.starts ∙ s.starts;
    none = none_end a.instructions b.instructions f.none s.none;
    performs = all_both (PerformsOnly Q) a.instructions b.instructions f.performs s.performs;
  }

  pub nothing_meets : (before : Code) → Meets Q before empty_code
  nothing_meets before =
      record { names = plain_names before [] tt; leads = tt; starts = refl; none = refl; performs = tt }

  pub straight_meets : (before part : Code) → Straight Q.items part → Meets Q before part
  straight_meets before part s = record {
    names = record {
      counters = all_weaker IsStraight (NamesCounter (length before.instructions + length part.instructions))
          (λ one h. names_none (length before.instructions + length part.instructions) one h) part.instructions
          s.instructions;
      areas = s.areas;
      entries = s.entries;
      files = s.files;
      senders = s.senders;
      inspections = s.inspections;
    };
    leads = straight_leads (before.instructions ++ part.instructions) (length before.instructions) part.instructions
        s.instructions;
    starts = s.starts;
    none = straight_none part.instructions s.instructions;
    performs = all_weaker IsStraight (PerformsOnly Q) (performs_none Q) part.instructions s.instructions;
  }

  -- ---- branches

  -- The branch leads after the first `join`, and the jump after the last one.
  laid_meets : (first second : Fragment) (before : Code) (other end : ℕ)
      → (let inner = append before (branch_code other) in let outer =
      append (append inner (first inner)) (jump_code end) in
      Meets Q inner (first inner) → Meets Q outer (second outer) → other ≡ length outer.instructions
      → end ≡ length (append outer (second outer)).instructions + 1
      → Meets Q before (sequence (λ now. branch_code other)
      (sequence first (sequence (λ now. jump_code end) (sequence second (λ now. join_code)))) before))
  laid_meets first second before other end one two other_is end_is =
      let branch = branch_code other in
      let inner = append before branch in
      let x = first inner in
      let middle = append inner x in
      let jump = jump_code end in
      let outer = append middle jump in
      let y = second outer in
      let last = append outer y in
      let r3 = append y join_code in
      let r2 = append jump r3 in
      let r1 = append x r2 in
      let whole = (append before (append branch r1)).instructions in
      let w1 : inner.instructions ++ r1.instructions ≡ whole =
      append_assoc before.instructions branch.instructions r1.instructions in
      let w2 : middle.instructions ++ r2.instructions ≡ whole =
      append_assoc inner.instructions x.instructions r2.instructions ∙ w1 in
      let w3 : outer.instructions ++ r3.instructions ≡ whole =
      append_assoc middle.instructions jump.instructions r3.instructions ∙ w2 in
      let w4 : last.instructions ++ join_code.instructions ≡ whole =
      append_assoc outer.instructions y.instructions join_code.instructions ∙ w3 in
      let n = length before.instructions in
      let l1 = length-append before.instructions branch.instructions in
      let l2 = length-append inner.instructions x.instructions in
      let l3 = length-append middle.instructions jump.instructions in
      let l4 = length-append outer.instructions y.instructions in
      let front = middle.instructions ++ Jump end ∷ [] in
      let l5 = length-append middle.instructions (Jump end ∷ []) in
      let to_other : length front ≡ other - 1 = omega (arith, l3, l5, other_is) in
      let to_end : length last.instructions ≡ end - 1 = omega (arith, end_is) in
      let joins : slice_get whole (other - 1) ≡ Some Join =
      ap (slice_get whole) (sym to_other)
      ∙ ap (λ (l : List Instruction). slice_get l (length front))
      (sym (append_assoc middle.instructions (Jump end ∷ []) (Join ∷ r3.instructions) ∙ w2))
      ∙ at_seam front Join r3.instructions in
      let joins_last : slice_get whole (end - 1) ≡ Some Join = ap (slice_get whole) (sym to_end)
      ∙ ap (λ (l : List Instruction). slice_get l (length last.instructions)) (sym w4)
      ∙ at_seam last.instructions Join [] in
      let part = branch.instructions ++ r1.instructions in
      let none3 : ends_in r3.instructions ≡ 0 = none_end y.instructions join_code.instructions two.none refl in
      let none2 : ends_in r2.instructions ≡ 0 = none_end jump.instructions r3.instructions refl none3 in
      let none1 : ends_in r1.instructions ≡ 0 = none_end x.instructions r2.instructions one.none none2 in
      let none : ends_in part ≡ 0 = none_end branch.instructions r1.instructions refl none1 in
      let first_leads : LeadsFrom whole (n + 1) x.instructions =
      subst (λ p. LeadsFrom whole p x.instructions) l1
      (subst (λ (w : List Instruction). LeadsFrom w (length inner.instructions) x.instructions) w2
      (all_stay middle.instructions r2.instructions (length inner.instructions) x.instructions (omega (arith, l2))
      one.leads)) in
      let at_second : length outer.instructions ≡ n + 1 + length x.instructions + 1 + 1 = omega (arith, l1, l2, l3) in
      let second_leads : LeadsFrom whole (n + 1 + length x.instructions + 1 + 1) y.instructions =
      subst (λ p. LeadsFrom whole p y.instructions) at_second
      (subst (λ (w : List Instruction). LeadsFrom w (length outer.instructions) y.instructions) w4
      (all_stay last.instructions join_code.instructions (length outer.instructions) y.instructions (omega (arith, l4))
      two.leads)) in
      record {
        names = both_name before branch r1 (plain_names before branch.instructions (tt, tt))
            (both_name inner x r2 one.names
            (both_name middle jump r3 (plain_names middle jump.instructions (tt, (tt, tt)))
            (both_name outer y join_code two.names (plain_names last join_code.instructions (tt, tt)))));
        leads = (
          inl (record {
            later = omega (arith, l1, l2, l3, other_is);
            join = subst IsJoin (sym joins) tt;
            stays = stays_within whole before.instructions part n other refl none (omega arith)
                (omega (arith, l1, l2, l3, other_is));
          }),
          both_lead whole (n + 1) x.instructions r2.instructions first_leads (
            inl (record {
              later = omega (arith, l1, l2, l3, l4, end_is);
              join = subst IsJoin (sym joins_last) tt;
              stays = stays_within whole before.instructions part (n + 1 + length x.instructions) end refl none
                  (omega arith)
                  (omega (arith, l1, l2, l3, l4, end_is));
            }),
            (
              tt,
              both_lead whole (n + 1 + length x.instructions + 1 + 1) y.instructions join_code.instructions second_leads
                  (tt, tt),
            ),
          ),
        );
        starts = ap (λ l. l ++ (y.starts ++ [])) one.starts ∙ ap (λ l. l ++ []) two.starts;
        none = none;
        performs = (
          tt,
          all_both (PerformsOnly Q) x.instructions r2.instructions one.performs
              (tt, (tt, all_both (PerformsOnly Q) y.instructions join_code.instructions two.performs (tt, tt))),
        );
      }

  -- The first way may rely on what stands before the branch.
  pub branch_meets : (first second : Fragment) → Blind first → Blind second → (before : Code)
      → ((now : Code) → length before.instructions ≤ length now.instructions → Meets Q now (first now))
      → ((now : Code) → Meets Q now (second now)) → Meets Q before (either_fragment first second before)
  branch_meets first second f g before one_met two_met =
      let l = either_laid first second f g before in
      let inner = append before (branch_code l.other) in
      let outer = append (append inner (first inner)) (jump_code l.end) in
      let l1 = length-append before.instructions (branch_code l.other).instructions in
      subst (Meets Q before) (sym l.is)
      (laid_meets first second before l.other l.end (one_met inner (omega (arith, l1))) (two_met outer) l.other_is
      l.end_is)

  pub either_meets : (first second : Fragment) → Blind first → Blind second → ((now : Code) → Meets Q now (first now))
      → ((now : Code) → Meets Q now (second now)) → (before : Code)
      → Meets Q before (either_fragment first second before)
  either_meets first second f g one_met two_met before =
      branch_meets first second f g before (λ now behind. one_met now) two_met
