-- The names of procedures, noted one after another.
use Rattle.std.proofs.Common.{◌≡◌, ℕ, ◌<◌, ◌≤◌, ◌+◌, ◌-◌, Bool, true, false, ◌||◌, bytes_eq, if◌then◌else◌, List, []}
use Rattle.std.proofs.Common.{◌∷◌}
use Rattle.std.proofs.Common.{◌++◌, length, max, get_or, drop, None, Some, refl, sym, ap, ◌∙◌, subst, append_assoc}
use Rattle.std.proofs.Common.{add-one, drop-cons, arith}
use Rattle.std.specs.Prelude.{Option, cond}
use Rattle.std.specs.Borrow.{Bor}
use Rattle.std.specs.declared.hash.FoldHasher.{FoldHasher}
use Rattle.std.specs.declared.hash.BuildHasherDefault.{BuildHasherDefault}
use Rattle.indexmap.specs.IndexMap.{IndexMap, get_by}
use Rattle.std.proofs.lemmas.List.{append-nil, drop_all}
use Rattle.std.proofs.lemmas.List.Elements.{filter-append}
use Rattle.std.proofs.lemmas.Slice.Eq.{bytes_eq-Decides}
use Rattle.source_tree.specs.declared.name.Name.{Name}
use Rattle.source_tree.specs.declared.program.Paragraph.{Paragraph}
use Rattle.source_tree.specs.declared.program.Section.{Section}
use Rattle.source_tree.specs.Broken.{where_so}
use Rattle.source_tree.specs.LookUp.{first}
use Rattle.source_tree.specs.Names.{same}
use Rattle.source_tree.specs.PerformRules.{name_of, names_of, is_among, given_once}
use Rattle.source_tree.specs.Procedures.{Range, Procedure, paragraphs_or_one, paragraph_procedures, procedures_from}
use Rattle.source_tree.specs.Procedures.{procedures_of, is_procedure, procedures_named, only_range, range_named}
use Rattle.name_table.specs.declared.procedures.ParagraphRange.{ParagraphRange}
use Rattle.name_table.specs.declared.procedures.ProcedureNames.{ProcedureNames}
use Rattle.name_table.specs.declared.procedures.ProcedureNamesError.{ProcedureNamesError}
use Rattle.name_table.specs.declared.procedures.ProcedureNamesError.TheVariants.{Memory, GivenTwice}
use Rattle.name_table.specs.Procedures.{IsOnlyProcedure, AreProcedures, IsGivenTwice}
use Rattle.name_table.specs.Noting.{procedure, section_procedures, AreNoted, IsTwice}

abbrev pub Ranges : Type 0
Ranges = IndexMap (Bor (List ℕ)) ParagraphRange (BuildHasherDefault FoldHasher)

-- what is noted under these characters
abbrev pub noted_under : List ℕ → Ranges → Option ParagraphRange
noted_under characters ranges = get_by (λ k. bytes_eq characters k.now) ranges

-- A name is noted beside the others.
abbrev pub IsNotedBeside : Ranges → Ranges → Name → ParagraphRange → Type 0
IsNotedBeside old new name range =
    (characters : List ℕ) → noted_under characters
    new ≡ (if bytes_eq characters name.characters then Some range else noted_under characters old)

-- ---- the names of procedures, and the procedures of a name

names_append : (xs ys : List Procedure) → names_of (xs ++ ys) ≡ names_of xs ++ names_of ys
names_append [] ys = refl
names_append (one ∷ more) ys = ap (λ l. name_of one.name ++ l) (names_append more ys)
    ∙ sym (append_assoc (name_of one.name) (names_of more) (names_of ys))

-- none has the name
not_among_by : (name : Name) (called : Option Name) (range : Range) (more : List Procedure)
    → (procedures_named more name ≡ [] → is_among name (names_of more) ≡ false)
    → procedures_named (record { name = called; range = range } ∷ more) name ≡ []
    → is_among name (name_of called ++ names_of more) ≡ false
not_among_by name None range more ih h = ih h
not_among_by name (Some other) range more ih h = by (same name other) h
  where
    by : (b : Bool) → cond b (record { name = Some other; range = range } ∷ procedures_named more name)
        (procedures_named more name) ≡ [] → (b || is_among name (names_of more)) ≡ false
    by true e = absurd cc
    by false e = ih e

not_among : (name : Name) (procedures : List Procedure) → procedures_named procedures name ≡ []
    → is_among name (names_of procedures) ≡ false
not_among name [] h = refl
not_among name (one ∷ more) h = not_among_by name one.name one.range more (not_among name more) h

-- one has it
among_by : (name : Name) (called : Option Name) (range : Range) (more : List Procedure) (found : Procedure)
    (others : List Procedure)
    → (procedures_named more name ≡ found ∷ others → is_among name (names_of more) ≡ true)
    → procedures_named (record { name = called; range = range } ∷ more) name ≡ found ∷ others
    → is_among name (name_of called ++ names_of more) ≡ true
among_by name None range more found others ih h = ih h
among_by name (Some other) range more found others ih h = by (same name other) h
  where
    by : (b : Bool) → cond b (record { name = Some other; range = range } ∷ procedures_named more name)
        (procedures_named more name) ≡ found ∷ others → (b || is_among name (names_of more)) ≡ true
    by true e = refl
    by false e = ih e

among : (name : Name) (procedures : List Procedure) (found : Procedure) (others : List Procedure)
    → procedures_named procedures name ≡ found ∷ others → is_among name (names_of procedures) ≡ true
among name [] found others h = absurd cc
among name (one ∷ more) found others h =
    among_by name one.name one.range more found others (among name more found others) h

-- ---- one more

pub whole_more : {A : Type 0} (all before more : List A) (one : A) → all ≡ before ++ one ∷ more
    → all ≡ (before ++ one ∷ []) ++ more
whole_more all before more one e = e ∙ sym (append_assoc before (one ∷ []) more)

named_more : (before : List Procedure) (one : Procedure) (name : Name)
    → procedures_named (before ++ one ∷ []) name
    ≡ procedures_named before name ++ cond (is_procedure name one) (one ∷ []) []
named_more before one name = filter-append (is_procedure name) before (one ∷ [])

-- a procedure without a name
pub skipped : (all more : List Procedure) (range : ParagraphRange) (names : ProcedureNames)
    → AreNoted all (procedure None range ∷ more) names → AreNoted all more names
skipped all more range names h =
    let one = procedure None range in
    let same_named : (name : Name) → procedures_named h.before name ≡ procedures_named (h.before ++ one ∷ []) name =
    λ name. sym (named_more h.before one name ∙ append-nil (procedures_named h.before name)) in
    let same_names : names_of h.before ≡ names_of (h.before ++ one ∷ []) =
    sym (names_append h.before (one ∷ []) ∙ append-nil (names_of h.before)) in
    record {
      before = h.before ++ one ∷ [];
      whole = whole_more all h.before more one h.whole;
      noted = record {
        named = λ name. subst (λ (l : List Procedure). IsOnlyProcedure l (noted_under name.characters names.ranges))
            (same_named name) (h.noted.named name);
      };
      once = h.once ∙ ap (λ (l : List Name). given_once l (names_of more)) same_names;
    }

none_found : (named : List Procedure) (found : Option ParagraphRange) → IsOnlyProcedure named found → found ≡ None
    → named ≡ []
none_found named None h e = h
none_found named (Some range) h e = absurd cc

one_found : (named : List Procedure) (found : Option ParagraphRange) (range : ParagraphRange)
    → IsOnlyProcedure named found → found ≡ Some range → (one : Procedure) × (named ≡ one ∷ [])
one_found named None range h e = absurd cc
one_found named (Some other) range h e = (h.0, h.1)

same_characters : (one other : List ℕ) → bytes_eq one other ≡ true → one ≡ other
same_characters one other e = (bytes_eq-Decides one other).0 e

-- a procedure whose name is new
pub taken : (all more : List Procedure) (name : Name) (range : ParagraphRange) (names new : ProcedureNames)
    → AreNoted all (procedure (Some name) range ∷ more) names → noted_under name.characters names.ranges ≡ None
    → IsNotedBeside names.ranges new.ranges name range → AreNoted all more new
taken all more name range names new h fresh updates =
    let one = procedure (Some name) range in
    let none =
    none_found (procedures_named h.before name) (noted_under name.characters names.ranges) (h.noted.named name) fresh in
    record {
      before = h.before ++ one ∷ [];
      whole = whole_more all h.before more one h.whole;
      noted = record { named = λ other. found other (bytes_eq other.characters name.characters) refl };
      once = h.once
          ∙ ap (λ (b : Bool). where_so b 42 name.place ++ given_once (names_of h.before ++ name ∷ []) (names_of more))
          (not_among name h.before none)
          ∙ ap (λ (l : List Name). given_once l (names_of more)) (sym (names_append h.before (one ∷ [])));
    }
  where
    both : (other : Name) (b : Bool) → bytes_eq other.characters name.characters ≡ b
        → IsOnlyProcedure (procedures_named h.before other ++ cond b (procedure (Some name) range ∷ []) [])
        (if b then Some range else noted_under other.characters names.ranges)
    both other true e =
        let alike = same_characters other.characters name.characters e in
        let none = none_found (procedures_named h.before other) (noted_under other.characters names.ranges)
        (h.noted.named other) (ap (λ (l : List ℕ). noted_under l names.ranges) alike ∙ fresh) in
        (procedure (Some name) range, ap (λ (l : List Procedure). l ++ procedure (Some name) range ∷ []) none, refl)
    both other false e = subst (λ (l : List Procedure). IsOnlyProcedure l (noted_under other.characters names.ranges))
        (sym (append-nil (procedures_named h.before other))) (h.noted.named other)

    found : (other : Name) (b : Bool) → bytes_eq other.characters name.characters ≡ b
        → IsOnlyProcedure (procedures_named (h.before ++ procedure (Some name) range ∷ []) other)
        (noted_under other.characters new.ranges)
    found other b e =
        let named = named_more h.before (procedure (Some name) range) other
        ∙ ap (λ (t : Bool). procedures_named h.before other ++ cond t (procedure (Some name) range ∷ []) []) e in
        let now = updates other.characters
        ∙ ap (λ (t : Bool). if t then Some range else noted_under other.characters names.ranges) e in
        subst (λ (l : List Procedure). IsOnlyProcedure l (noted_under other.characters new.ranges)) (sym named)
        (subst (λ (o : Option ParagraphRange). IsOnlyProcedure (procedures_named h.before other
        ++ cond b (procedure (Some name) range ∷ []) []) o) (sym now) (both other b e))

-- a procedure whose name was given before
pub twice : (all more : List Procedure) (name : Name) (range before : ParagraphRange) (names : ProcedureNames)
    → AreNoted all (procedure (Some name) range ∷ more) names → noted_under name.characters names.ranges ≡ Some before
    → first (given_once [] (names_of all)) ≡ Some (record { rule = 42; place = name.place })
twice all more name range before names h was =
    let found = one_found (procedures_named h.before name) (noted_under name.characters names.ranges) before
    (h.noted.named name) was in
    ap first h.once
    ∙ ap (λ (b : Bool). first (where_so b 42 name.place ++ given_once (names_of h.before ++ name ∷ []) (names_of more)))
    (among name h.before found.0 [] found.1)

-- ---- paragraphs and sections

next_is : {A : Type 0} (all : List A) (i : ℕ) (one : A) → i < length all → one ≡ get_or all i one
    → drop i all ≡ one ∷ drop (i + 1) all
next_is all i one h is = drop-cons all i one h ∙ ap (λ k. get_or all i one ∷ drop k all) (sym (add-one i))
    ∙ ap (λ x. x ∷ drop (i + 1) all) (sym is)

-- The next paragraph's name comes next.
pub next_paragraph : (all more : List Procedure) (paragraphs : List Paragraph) (first i : ℕ) (one : Paragraph)
    (name : Option Name) (names : ProcedureNames)
    → i < length paragraphs → one ≡ get_or paragraphs i one → name ≡ one.name
    → AreNoted all (paragraph_procedures (first + i) (drop i paragraphs) ++ more) names
    → AreNoted all (procedure name (record { first = first + i; last = first + i })
    ∷ (paragraph_procedures (first + i + 1) (drop (i + 1) paragraphs) ++ more)) names
next_paragraph all more paragraphs first i one name names lt is named h =
    let range : ParagraphRange = record { first = first + i; last = first + i } in
    let now = subst (λ (l : List Paragraph). AreNoted all (paragraph_procedures (first + i) l ++ more) names)
    (next_is paragraphs i one lt is) h in
    subst (λ (n : Option Name). AreNoted all (procedure n range
    ∷ (paragraph_procedures (first + i + 1) (drop (i + 1) paragraphs) ++ more)) names) (sym named) now

-- A section's own name comes first.
pub section_first :
    (all more : List Procedure) (one : Section) (first next : ℕ) (name : Option Name) (names : ProcedureNames)
    → name ≡ one.name → next ≡ first + length (paragraphs_or_one one.paragraphs)
    → AreNoted all (section_procedures first one ++ more) names
    → AreNoted all (procedure name (record { first = first; last = next - 1 })
    ∷ (paragraph_procedures first (paragraphs_or_one one.paragraphs) ++ more)) names
section_first all more one first next name names named is h =
    let rest = paragraph_procedures first (paragraphs_or_one one.paragraphs) ++ more in
    let range : ℕ → ParagraphRange = λ n. record { first = first; last = n - 1 } in
    subst (λ (n : ℕ). AreNoted all (procedure name (range n) ∷ rest) names) (sym is)
    (subst (λ (n : Option Name). AreNoted all
    (procedure n (range (first + length (paragraphs_or_one one.paragraphs))) ∷ rest) names) (sym named) h)

-- The paragraph of a section without any has no name.
paragraphs_only : (all more : List Procedure) (paragraphs : List Paragraph) (first : ℕ) (names : ProcedureNames)
    → AreNoted all (paragraph_procedures first (paragraphs_or_one paragraphs) ++ more) names
    → AreNoted all (paragraph_procedures first paragraphs ++ more) names
paragraphs_only all more [] first names h = skipped all more (record { first = first; last = first }) names h
paragraphs_only all more (one ∷ rest) first names h = h

-- After a section's name come those of its paragraphs.
pub paragraphs_next : (all more : List Procedure) (paragraphs given : List Paragraph) (first : ℕ)
    (names : ProcedureNames) → given ≡ paragraphs
    → AreNoted all (paragraph_procedures first (paragraphs_or_one paragraphs) ++ more) names
    → AreNoted all (paragraph_procedures first given ++ more) names
paragraphs_next all more paragraphs given first names is h =
    subst (λ (l : List Paragraph). AreNoted all (paragraph_procedures first l ++ more) names) (sym is)
    (paragraphs_only all more paragraphs first names h)

count_of : (paragraphs : List Paragraph) → max (length paragraphs) 1 ≡ length (paragraphs_or_one paragraphs)
count_of [] = refl
count_of (one ∷ more) = omega arith

pub next_number : (paragraphs given : List Paragraph) (first next count : ℕ) → given ≡ paragraphs
    → count ≡ max (length given) 1 → next ≡ first + count
    → next ≡ first + length (paragraphs_or_one paragraphs)
next_number paragraphs given first next count is counted e =
    e ∙ ap (λ (n : ℕ). first + n) (counted ∙ ap (λ (l : List Paragraph). max (length l) 1) is ∙ count_of paragraphs)

pub next_section :
    (all : List Procedure) (sections : List Section) (first i : ℕ) (one : Section) (names : ProcedureNames)
    → i < length sections → one ≡ get_or sections i one → AreNoted all (procedures_from first (drop i sections)) names
    → AreNoted all (section_procedures first one
    ++ procedures_from (first + length (paragraphs_or_one one.paragraphs)) (drop (i + 1) sections)) names
next_section all sections first i one names lt is h =
    subst (λ (l : List Section). AreNoted all (procedures_from first l) names) (next_is sections i one lt is) h

-- ---- after the last section

pub noted_all : (all : List Procedure) (sections : List Section) (first i : ℕ) (names : ProcedureNames)
    → length sections ≤ i → AreNoted all (procedures_from first (drop i sections)) names → AreNoted all [] names
noted_all all sections first i names past h =
    subst (λ (l : List Section). AreNoted all (procedures_from first l) names) (drop_all i sections past) h

pub whole_noted : (all : List Procedure) (names : ProcedureNames) → AreNoted all [] names → AreProcedures all names
whole_noted all names h =
    subst (λ (l : List Procedure). AreProcedures l names) (sym (h.whole ∙ append-nil h.before)) h.noted

-- ---- what is told

pub given_twice : (sections : List Section) (error : ProcedureNamesError) → IsTwice (procedures_of sections) error
    → IsGivenTwice sections error
given_twice sections Memory h = tt
given_twice sections (GivenTwice place) h = h

-- ---- what isn't found

none_given : (given : List Procedure) (found : Option ParagraphRange) → IsOnlyProcedure given found
    → only_range given ≡ None → given ≡ []
none_given given None h e = h
none_given given (Some range) h e = absurd (let some : only_range given ≡ Some h.0.range = ap only_range h.1 in cc)

-- A name that is given once alone, and not found, isn't given.
pub not_given : (procedures : List Procedure) (all : ProcedureNames) (name : Name) → AreProcedures procedures all
    → range_named procedures name ≡ None → procedures_named procedures name ≡ []
not_given procedures all name h e =
    none_given (procedures_named procedures name) (noted_under name.characters all.ranges) (h.named name) e
