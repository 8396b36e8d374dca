-- The code paragraphs of a program: where they start and end, what they name, and what they perform.
use Rattle.std.proofs.Common.{◌≡◌, ℕ, zero, suc, ◌+◌, ◌-◌, ◌<◌, ◌≤◌, List, [], ◌∷◌, ◌++◌, length, map, Some, refl, sym}
use Rattle.std.proofs.Common.{ap, ◌∙◌, subst, inl, inr, ⊎_elim, arith, append_assoc, length-append}
use Rattle.std.specs.Prelude.{Bool, slice_get, slice_index}
use Rattle.std.specs.List.{AllByRecursion}
use Rattle.std.proofs.lemmas.List.{append-nil}
use Rattle.lexical.specs.declared.place.Place.{Place}
use Rattle.perform_graph.specs.declared.performed.PerformedRange.{PerformedRange}
use Rattle.perform_graph.specs.Order.{IsRange}
use Rattle.source_tree.specs.declared.program.Paragraph.{Paragraph}
use Rattle.source_tree.specs.Broken.{each}
use Rattle.source_tree.specs.Places.{LocatedItem}
use Rattle.source_tree.specs.Procedures.{Range}
use Rattle.source_tree.specs.ProgramFiles.{ProgramFile}
use Rattle.source_tree.specs.Recursion.{Performance, paragraph_performs, by_paragraph, performs_from}
use Rattle.source_tree.specs.Rules.{paragraph_rules}
use Rattle.source_tree.specs.Setting.{Scope}
use Rattle.code_image.specs.declared.code.Code.{Code}
use Rattle.code_image.specs.declared.instruction.Instruction.{Instruction}
use Rattle.code_image.specs.declared.instruction.Instruction.TheVariants.{Tick, Show, Stop, Count, CountNumber, Turn}
use Rattle.code_image.specs.declared.instruction.Instruction.TheVariants.{Accept, Date, Branch, Jump, Join, Perform}
use Rattle.code_image.specs.declared.instruction.Instruction.TheVariants.{Back, File, TestStatus, Unheard, Data}
use Rattle.code_image.specs.Demands.{NamesParagraph, IsBack, back_count, ends_in, paragraph_at, IsFront, StartsAt}
use Rattle.code_image.specs.Demands.{performs, performed_from}
use Rattle.condition_codegen.specs.Fragments.{empty_code, append, in_order}
use Rattle.codegen.specs.Layout.{sentence_fragment, start_fragment, back_fragment, paragraph_fragment}
use Rattle.condition_codegen.proofs.Lists.{left_none, right_none, all_both}
use Rattle.condition_codegen.proofs.ConditionValues.{AreFormed}
use Rattle.codegen.proofs.Inspections.{AreSized}
use Rattle.codegen.proofs.Demands.{Asked, asks_of, paragraph_meets}
use Rattle.codegen.proofs.HasFiles.{IsNumbered, IsSuited}
use Rattle.codegen.proofs.Leading.{ends_append, taken_behind, paragraph_stays, paragraph_within, LeadsFrom, found_stays}
use Rattle.codegen.proofs.Leading.{both_ways, Names, both_name, plain_names, all_weaker, Asks, PerformsOnly, Meets}
use Rattle.codegen.proofs.Ranges.{EndsWithin}
use Rattle.codegen.proofs.Standing.{at_seam}

-- ---- what instructions perform

pub performed_append : (number : ℕ) (xs ys : List Instruction)
    → performed_from number (xs ++ ys) ≡ performed_from number xs ++ performed_from (number + ends_in xs) ys
performed_append number [] ys = let e : number ≡ number + 0 = omega arith in ap (λ n. performed_from n ys) e
performed_append number (x ∷ xs) ys =
    let e : number + back_count x + ends_in xs ≡ number + (back_count x + ends_in xs) = omega arith in
    ap (λ l. performs number x ++ l)
    (performed_append (number + back_count x) xs ys
    ∙ ap (λ n. performed_from (number + back_count x) xs ++ performed_from n ys) e)
    ∙ sym (append_assoc (performs number x) (performed_from (number + back_count x) xs)
    (performed_from (number + (back_count x + ends_in xs)) ys))

-- `Q`: of ranges that code paragraph `number` performs
module _ (number : ℕ) (Q : Asks) (R : PerformedRange → Type 0)
    (gives : (range : Range) → Q.ranges range
    → R (record { performer = number; first = range.first; last = range.last })) where
  one_performed : (one : Instruction) → PerformsOnly Q one → AllByRecursion R (performs number one)
  one_performed (Perform line first last) h = (gives (record { first = first.number; last = last.number }) h, tt)
  one_performed (Tick line) h = tt
  one_performed Show h = tt
  one_performed Stop h = tt
  one_performed (Count counter turns) h = tt
  one_performed (CountNumber counter) h = tt
  one_performed (Turn counter to) h = tt
  one_performed Accept h = tt
  one_performed Date h = tt
  one_performed (Branch to) h = tt
  one_performed (Jump to) h = tt
  one_performed Join h = tt
  one_performed (Back paragraph) h = tt
  one_performed (File file verb) h = tt
  one_performed (TestStatus class) h = tt
  one_performed Unheard h = tt
  one_performed (Data one) h = tt

  all_performed : (all : List Instruction) → ends_in all ≡ 0 → AllByRecursion (PerformsOnly Q) all
      → AllByRecursion R (performed_from number all)
  all_performed [] none h = tt
  all_performed (one ∷ more) none h =
      let e : number ≡ number + back_count one = omega (arith, none) in
      all_both R (performs number one) (performed_from (number + back_count one) more) (one_performed one h.0)
      (subst (λ n. AllByRecursion R (performed_from n more)) e (all_performed more (omega (arith, none)) h.1))

-- The verb of a file statement suits its file.
abbrev pub IsSuitedAt : List ProgramFile → Instruction → Type 0
IsSuitedAt files (File file verb) = IsSuited files file.number verb
IsSuitedAt files _ = Unit {0}

module _ (items : List LocatedItem) (files : List ProgramFile) (count : ℕ) (asked : Range → Type 0) where
  suited_at : (one : Instruction) → PerformsOnly (asks_of items files count asked) one → IsSuitedAt files one
  suited_at (File file verb) h = h
  suited_at (Perform line first last) h = tt
  suited_at (Tick line) h = tt
  suited_at Show h = tt
  suited_at Stop h = tt
  suited_at (Count counter turns) h = tt
  suited_at (CountNumber counter) h = tt
  suited_at (Turn counter to) h = tt
  suited_at Accept h = tt
  suited_at Date h = tt
  suited_at (Branch to) h = tt
  suited_at (Jump to) h = tt
  suited_at Join h = tt
  suited_at (Back paragraph) h = tt
  suited_at (TestStatus class) h = tt
  suited_at Unheard h = tt
  suited_at (Data one) h = tt

  names_paragraph : (one : Instruction) → back_count one ≡ 0 → PerformsOnly (asks_of items files count asked) one
      → NamesParagraph count one
  names_paragraph (Perform line first last) none h = let le = h.within.first in let lt =
      h.within.last in (omega (arith, le, lt), lt)
  names_paragraph (Tick line) none h = tt
  names_paragraph Show none h = tt
  names_paragraph Stop none h = tt
  names_paragraph (Count counter turns) none h = tt
  names_paragraph (CountNumber counter) none h = tt
  names_paragraph (Turn counter to) none h = tt
  names_paragraph Accept none h = tt
  names_paragraph Date none h = tt
  names_paragraph (Branch to) none h = tt
  names_paragraph (Jump to) none h = tt
  names_paragraph Join none h = tt
  names_paragraph (Back paragraph) none h = absurd (omega (arith, none))
  names_paragraph (File file verb) none h = tt
  names_paragraph (TestStatus class) none h = tt
  names_paragraph Unheard none h = tt
  names_paragraph (Data one) none h = tt

  name_paragraphs : (all : List Instruction) → ends_in all ≡ 0
      → AllByRecursion (PerformsOnly (asks_of items files count asked)) all
      → AllByRecursion (NamesParagraph count) all
  name_paragraphs [] none h = tt
  name_paragraphs (one ∷ more) none h =
      (names_paragraph one (omega (arith, none)) h.0, name_paragraphs more (omega (arith, none)) h.1)

-- ---- where code paragraphs start

-- they start at these addresses, the first of them with this number
abbrev pub StartFrom : List Instruction → ℕ → List ℕ → Type 0
StartFrom whole number [] = Unit {0}
StartFrom whole number (start ∷ more) =
    (StartsAt whole number start × (start ≤ length whole)) × StartFrom whole (number + 1) more

front_stays : (xs ys : List Instruction) (address : ℕ) → IsFront xs address → IsFront (xs ++ ys) address
front_stays xs ys address h =
    ⊎_elim (λ first. inl first) (λ back. inr (found_stays IsBack (λ none. none) xs ys (address - 1) back)) h

pub starts_stay : (xs ys : List Instruction) (number : ℕ) (starts : List ℕ) → StartFrom xs number starts
    → StartFrom (xs ++ ys) number starts
starts_stay xs ys number [] h = tt
starts_stay xs ys number (start ∷ more) h =
    let n = length-append xs ys in
    let le = h.0.1 in (
      (
        record { front = front_stays xs ys start h.0.0.front; in_it = paragraph_stays xs ys start le ∙ h.0.0.in_it },
        omega (arith, le, n),
      ),
      starts_stay xs ys (number + 1) more h.1,
    )

both_start : (whole : List Instruction) (number : ℕ) (xs ys : List ℕ) → StartFrom whole number xs
    → StartFrom whole (number + length xs) ys
    → StartFrom whole number (xs ++ ys)
both_start whole number [] ys a b = let e : number + 0 ≡ number = omega arith in subst (λ n. StartFrom whole n ys) e b
both_start whole number (x ∷ xs) ys a b =
    let e : number + length (x ∷ xs) ≡ number + 1 + length xs = omega arith in
    (a.0, both_start whole (number + 1) xs ys a.1 (subst (λ n. StartFrom whole n ys) e b))

pub start_at : (whole : List Instruction) (number : ℕ) (starts : List ℕ) → StartFrom whole number starts → (k : ℕ)
    → k < length starts
    → StartsAt whole (number + k) (slice_index starts k)
start_at whole number [] h k lt = absurd (omega (arith, lt))
start_at whole number (start ∷ more) h zero lt = let e : number ≡ number + 0 =
    omega arith in subst (λ n. StartsAt whole n start) e h.0.0
start_at whole number (start ∷ more) h (suc k) lt =
    let e : number + 1 + k ≡ number + suc k = omega arith in
    subst (λ n. StartsAt whole n (slice_index more k)) e (start_at whole (number + 1) more h.1 k (omega (arith, lt)))

pub starts_within : (whole : List Instruction) (number : ℕ) (starts : List ℕ) → StartFrom whole number starts
    → AllByRecursion (λ (start : ℕ). start ≤ length whole) starts
starts_within whole number [] h = tt
starts_within whole number (start ∷ more) h = (h.0.1, starts_within whole (number + 1) more h.1)

-- ---- whole code paragraphs

-- A code paragraph may start after such code.
pub record IsReady (before : Code) : Type 0 where
  pub ends : ends_in before.instructions ≡ length before.starts
  pub front : IsFront before.instructions (length before.instructions)

-- So many code paragraphs of `count` in all; what they perform is `P`, and what they do to files suits these.
pub record AreParagraphs (items : List LocatedItem) (files : List ProgramFile) (count : ℕ) (P : PerformedRange → Type 0)
    (many : ℕ)
    (before part : Code) : Type 0 where
  pub names : Names items before part
  pub leads : LeadsFrom (before.instructions ++ part.instructions) (length before.instructions) part.instructions
  pub many_are : length part.starts ≡ many
  pub ends : ends_in part.instructions ≡ many
  pub starts : StartFrom (before.instructions ++ part.instructions) (length before.starts) part.starts
  pub ready : IsFront (before.instructions ++ part.instructions) (length (before.instructions ++ part.instructions))
  pub paragraphs : AllByRecursion (NamesParagraph count) part.instructions
  pub suited : AllByRecursion (IsSuitedAt files) part.instructions
  pub ranges : AllByRecursion (IsRange count) (performed_from (length before.starts) part.instructions)
  pub performed : AllByRecursion P (performed_from (length before.starts) part.instructions)

module _ (items : List LocatedItem) (files : List ProgramFile) (count : ℕ) (P : PerformedRange → Type 0) where
  no_paragraphs : (before : Code) → IsReady before → AreParagraphs items files count P 0 before empty_code
  no_paragraphs before is = record {
    names = plain_names before [] tt;
    leads = tt;
    many_are = refl;
    ends = refl;
    starts = tt;
    ready = subst (λ l. IsFront l (length l)) (sym (append-nil before.instructions)) is.front;
    paragraphs = tt;
    suited = tt;
    ranges = tt;
    performed = tt;
  }

  -- code after which another code paragraph may start
  ready_behind : (many : ℕ) (before part : Code) → IsReady before → AreParagraphs items files count P many before part
      → IsReady (append before part)
  ready_behind many before part is h =
      let n = length-append before.starts part.starts in
      let m = ends_append before.instructions part.instructions in
      let a = is.ends in
      let b = h.ends in
      let c = h.many_are in
      record { ends = omega (arith, n, m, a, b, c); front = h.ready }

  both_paragraphs : (m n : ℕ) (before a b : Code) → AreParagraphs items files count P m before a
      → AreParagraphs items files count P n (append before a) b
      → AreParagraphs items files count P (m + n) before (append a b)
  both_paragraphs m n before a b f s =
      let is = append_assoc before.instructions a.instructions b.instructions in
      let so_many = length-append a.starts b.starts in
      let so_ends = ends_append a.instructions b.instructions in
      let in_all = length-append before.starts a.starts in
      let f_many = f.many_are in
      let s_many = s.many_are in
      let f_ends = f.ends in
      let s_ends = s.ends in
      let number : length (before.starts ++ a.starts) ≡ length before.starts + ends_in a.instructions =
      omega (arith, in_all, f_many, f_ends) in
      let performs_is = performed_append (length before.starts) a.instructions b.instructions in
      let front = performed_from (length before.starts) a.instructions in
      let back = performed_from (length before.starts + ends_in a.instructions) b.instructions in
      record {
        names = both_name before a b f.names s.names;
        leads = both_ways before a b f.leads s.leads;
        many_are = omega (arith, so_many, f_many, s_many);
        ends = omega (arith, so_ends, f_ends, s_ends);
        starts = subst (λ l. StartFrom l (length before.starts) (a.starts ++ b.starts)) is
            (both_start ((before.instructions ++ a.instructions) ++ b.instructions) (length before.starts) a.starts
            b.starts
            (starts_stay (before.instructions ++ a.instructions) b.instructions (length before.starts) a.starts
            f.starts)
            (subst (λ k. StartFrom ((before.instructions ++ a.instructions) ++ b.instructions) k b.starts) in_all
            s.starts));
        ready = subst (λ l. IsFront l (length l)) is s.ready;
        paragraphs = all_both (NamesParagraph count) a.instructions b.instructions f.paragraphs s.paragraphs;
        suited = all_both (IsSuitedAt files) a.instructions b.instructions f.suited s.suited;
        ranges = subst (AllByRecursion (IsRange count)) (sym performs_is)
            (all_both (IsRange count) front back f.ranges
            (subst (λ k. AllByRecursion (IsRange count) (performed_from k b.instructions)) number s.ranges));
        performed = subst (AllByRecursion P) (sym performs_is)
            (all_both P front back f.performed
            (subst (λ k. AllByRecursion P (performed_from k b.instructions)) number s.performed));
      }

  -- what a paragraph of this number performs is so
  abbrev asked_of : ℕ → Range → Type 0
  asked_of number range = P (record { performer = number; first = range.first; last = range.last })

  -- A code paragraph starts, statements stand in it, and it ends.
  one_paragraph : (before body : Code) → IsReady before → length before.starts < count
      → Meets (asks_of items files count (asked_of (length before.starts))) (append before (start_fragment before)) body
      → AreParagraphs items files count P 1 before
      (append (start_fragment before) (append body (back_fragment (length before.starts) before)))
  one_paragraph before body is lt met =
      let number : ℕ = length before.starts in
      let Q = asks_of items files count (asked_of number) in
      let start = start_fragment before in
      let front = append before start in
      let last = back_fragment number before in
      let middle = append front body in
      let part = append start (append body last) in
      let whole = before.instructions ++ (body.instructions ++ last.instructions) in
      let same_front : front.instructions ≡ before.instructions = append-nil before.instructions in
      let front_ends : ends_in front.instructions ≡ number = ap ends_in same_front ∙ is.ends in
      let n1 = length-append front.instructions body.instructions in
      let n2 = length-append before.instructions (body.instructions ++ last.instructions) in
      let n3 = length-append middle.instructions last.instructions in
      let n4 : length last.instructions ≡ 1 = refl in
      let same : middle.instructions ++ last.instructions ≡ whole =
      append_assoc front.instructions body.instructions last.instructions
      ∙ ap (λ l. l ++ (body.instructions ++ last.instructions)) same_front in
      let at_back : paragraph_at (middle.instructions ++ last.instructions) (length middle.instructions) ≡ number =
      paragraph_stays middle.instructions last.instructions (length middle.instructions) (omega arith)
      ∙ paragraph_within front.instructions body.instructions (length middle.instructions) met.none (omega (arith, n1))
      ∙ front_ends in
      let back_leads : LeadsFrom (middle.instructions ++ last.instructions) (length middle.instructions)
      last.instructions = (sym at_back, tt) in
      let ends_is = ends_append body.instructions last.instructions in
      let none = met.none in
      let one_end : ends_in last.instructions ≡ 1 = refl in
      let starts_is : part.starts ≡ length before.instructions ∷ [] =
      ap (λ l. length before.instructions ∷ (l ++ [])) met.starts in
      let zero_is : length before.instructions + 0 ≡ length before.instructions = omega arith in
      let none_is : ends_in before.instructions + 0 ≡ number = omega (arith, is.ends) in
      let at_start : paragraph_at whole (length before.instructions) ≡ number =
      ap (paragraph_at whole) (sym zero_is)
      ∙ taken_behind before.instructions (body.instructions ++ last.instructions) 0 ∙ none_is in
      let seam : slice_get whole (length middle.instructions) ≡ Some (Back (record { number = number })) =
      ap (λ (l : List Instruction). slice_get l (length middle.instructions)) (sym same)
      ∙ at_seam middle.instructions (Back (record { number = number })) [] in
      let n5 = ap length same in
      let at_end : length whole - 1 ≡ length middle.instructions = omega (arith, n3, n4, n5) in
      let performs_is = performed_append number body.instructions last.instructions in
      let given : AllByRecursion (PerformsOnly Q) body.instructions = met.performs in
      let ranges : AllByRecursion (IsRange count) (performed_from number body.instructions) =
      all_performed number Q (IsRange count)
      (λ range h. record { performer = lt; first = h.within.first; last = h.within.last }) body.instructions none
      given in
      let asked : AllByRecursion P (performed_from number body.instructions) =
      all_performed number Q P (λ range h. h.asked) body.instructions none given in
      record {
        names = both_name before start (append body last)
            (record { counters = tt; areas = refl; entries = tt; files = refl; senders = tt; inspections = tt })
            (both_name front body last met.names (plain_names middle last.instructions (tt, tt)));
        leads = both_ways before start (append body last) tt (both_ways front body last met.leads back_leads);
        many_are = ap length starts_is;
        ends = omega (arith, ends_is, none, one_end);
        starts = subst (StartFrom whole number) (sym starts_is) (
          (
            record {
              front = front_stays before.instructions (body.instructions ++ last.instructions)
                  (length before.instructions) is.front;
              in_it = at_start;
            },
            omega (arith, n2),
          ),
          tt,
        );
        ready = inr (subst IsBack (sym (ap (slice_get whole) at_end ∙ seam)) tt);
        paragraphs = all_both (NamesParagraph count) body.instructions last.instructions
            (name_paragraphs items files count (asked_of number) body.instructions none given) (lt, tt);
        suited = all_both (IsSuitedAt files) body.instructions last.instructions
            (all_weaker (PerformsOnly Q) (IsSuitedAt files) (suited_at items files count (asked_of number))
            body.instructions
            given) (tt, tt);
        ranges = subst (AllByRecursion (IsRange count)) (sym performs_is)
            (all_both (IsRange count) (performed_from number body.instructions)
            (performed_from (number + ends_in body.instructions) last.instructions) ranges tt);
        performed = subst (AllByRecursion P) (sym performs_is)
            (all_both P (performed_from number body.instructions)
            (performed_from (number + ends_in body.instructions) last.instructions) asked tt);
      }

  -- ---- the paragraphs of a program

  -- what the first paragraph performs, and what the others do
  first_asked : (number : ℕ) (all : List Performance) (more : List (Place × PerformedRange))
      → AllByRecursion P (map (λ one. one.1) (map (by_paragraph number) all ++ more))
      → Asked (asked_of number) all × AllByRecursion P (map (λ one. one.1) more)
  first_asked number [] more h = (tt, h)
  first_asked number (one ∷ all) more h = let rest = first_asked number all more h.1 in ((h.0, rest.0), rest.1)

module _ (scope : Scope) (count : ℕ) (P : PerformedRange → Type 0) where
  module _ (permits : Range → Bool) (formed : AreFormed scope.items) (sized : AreSized scope.items)
      (within : AllByRecursion (EndsWithin count) scope.procedures)
      (numbered : AllByRecursion (IsNumbered scope.files) scope.files) where
    pub paragraphs_lie : (all : List Paragraph) (before : Code) → IsReady before
        → length before.starts + length all ≤ count
        → each (paragraph_rules scope permits) all ≡ []
        → AllByRecursion P (map (λ one. one.1) (performs_from scope.procedures (length before.starts) all))
        → AreParagraphs scope.items scope.files count P (length all) before
        (in_order (paragraph_fragment scope) all before)
    paragraphs_lie [] before is le e q = no_paragraphs scope.items scope.files count P before is
    paragraphs_lie (one ∷ more) before is le e q =
        let number : ℕ = length before.starts in
        let start = start_fragment before in
        let body = in_order (sentence_fragment scope) one.sentences (append before start) in
        let part = paragraph_fragment scope one before in
        let next = append before part in
        let split = first_asked scope.items scope.files count P number (paragraph_performs scope.procedures one)
        (performs_from scope.procedures (number + 1) more) q in
        let met = paragraph_meets scope permits formed sized count within numbered
        (asked_of scope.items scope.files count P number)
        one.sentences
        (left_none (paragraph_rules scope permits one) (each (paragraph_rules scope permits) more) e) split.0
        (append before start) in
        let first = one_paragraph scope.items scope.files count P before body is (omega (arith, le)) met in
        let in_all = length-append before.starts part.starts in
        let many = first.many_are in
        let so_far : number + 1 ≡ length next.starts = omega (arith, in_all, many) in
        let rest =
        paragraphs_lie more next (ready_behind scope.items scope.files count P 1 before part is first)
        (omega (arith, le, so_far))
        (right_none (paragraph_rules scope permits one) (each (paragraph_rules scope permits) more) e)
        (subst (λ n. AllByRecursion P (map (λ one. one.1) (performs_from scope.procedures n more))) so_far split.1) in
        let sum : 1 + length more ≡ length (one ∷ more) = omega arith in
        subst (λ n.
        AreParagraphs scope.items scope.files count P n before
        (append part (in_order (paragraph_fragment scope) more next))) sum
        (both_paragraphs scope.items scope.files count P 1 (length more) before part
        (in_order (paragraph_fragment scope) more next)
        first rest)
