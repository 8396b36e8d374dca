-- Procedures that are listed one after another.
use Rattle.std.proofs.Common.{◌≡◌, ℕ, ◌<◌, ◌+◌, ◌-◌, List, [], ◌∷◌, ◌++◌, length, get_or, drop, refl, sym, ap, ◌∙◌}
use Rattle.std.proofs.Common.{append_assoc, add-one, drop-cons, arith}
use Rattle.std.specs.Prelude.{Option, map}
use Rattle.std.specs.Borrow.{Bor}
use Rattle.std.specs.Option.{option_copied}
use Rattle.std.proofs.lemmas.List.{map-append}
use Rattle.source_tree.specs.declared.name.Name.{Name}
use Rattle.source_tree.specs.declared.program.Paragraph.{Paragraph}
use Rattle.source_tree.specs.declared.program.Section.{Section}
use Rattle.source_tree.specs.Procedures as tree
use Rattle.source_tree.specs.Procedures.{one_range, paragraph_procedures, paragraphs_or_one, procedures_from}
use Rattle.name_table.specs.Noting.{section_procedures}
use Rattle.declarations.specs.declared.listed.Procedure.{Procedure}
use Rattle.declarations.specs.Listed.{procedure_of}

next_is : {A : Type 0} (all : List A) (i : ℕ) (one : A) → i < length all → one ≡ get_or all i one
    → drop i all ≡ one ∷ drop (i + 1) all
next_is all i one h is = drop-cons all i one h ∙ ap (λ k. get_or all i one ∷ drop k all) (sym (add-one i))
    ∙ ap (λ x. x ∷ drop (i + 1) all) (sym is)

-- A section has a paragraph.
pub some_paragraphs : (paragraphs : List Paragraph) → 0 < length paragraphs → paragraphs_or_one paragraphs ≡ paragraphs
some_paragraphs [] h = absurd (omega (arith, h))
some_paragraphs (one ∷ more) h = refl

-- one more, in front of others
pub one_more : (old new : List Procedure) (one : Procedure) (more : List tree.Procedure) → new ≡ old ++ one ∷ []
    → map procedure_of new ++ more ≡ map procedure_of old ++ procedure_of one ∷ more
one_more old new one more e =
    ap (λ l. map procedure_of l ++ more) e
    ∙ ap (λ l. l ++ more) (map-append procedure_of old (one ∷ []))
    ∙ append_assoc (map procedure_of old) (procedure_of one ∷ []) more

-- The next paragraph stands first of those that are left.
pub next_paragraph : (paragraphs : List Paragraph) (first i : ℕ) (one : Paragraph) (name : Option Name)
    → i < length paragraphs → one ≡ get_or paragraphs i one → name ≡ one.name
    → record { name = name; range = one_range (first + i) } ∷ paragraph_procedures (first + (i + 1))
    (drop (i + 1) paragraphs) ≡ paragraph_procedures (first + i) (drop i paragraphs)
next_paragraph paragraphs first i one name lt is named =
    let next : first + (i + 1) ≡ first + i + 1 = omega arith in
    let listed : Option Name → ℕ → List tree.Procedure =
    λ n k. record { name = n; range = one_range (first + i) } ∷ paragraph_procedures k (drop (i + 1) paragraphs) in
    ap (listed name) next ∙ ap (λ n. listed n (first + i + 1)) named
    ∙ ap (paragraph_procedures (first + i)) (sym (next_is paragraphs i one lt is))

-- The next section stands first of those that are left.
pub next_section : (old new : List tree.Procedure) (sections : List Section) (first next i : ℕ) (one : Section)
    → i < length sections → one ≡ get_or sections i one
    → next ≡ first + length (paragraphs_or_one one.paragraphs) → new ≡ old ++ section_procedures first one
    → new ++ procedures_from next (drop (i + 1) sections) ≡ old ++ procedures_from first (drop i sections)
next_section old new sections first next i one lt is e h =
    let rest = procedures_from (first + length (paragraphs_or_one one.paragraphs)) (drop (i + 1) sections) in
    ap (λ n. new ++ procedures_from n (drop (i + 1) sections)) e
    ∙ ap (λ l. l ++ rest) h
    ∙ append_assoc old (section_procedures first one) rest
    ∙ ap (λ l. old ++ procedures_from first l) (sym (next_is sections i one lt is))

-- A section itself, and then its paragraphs.
pub section_listed : (old new whole : List Procedure) (one : Section) (name : Option (Bor Name))
    (given : List Paragraph) (first next : ℕ) → given ≡ one.paragraphs
    → next ≡ first + length (paragraphs_or_one one.paragraphs) → option_copied name ≡ one.name
    → new ≡ old ++ record { name = name; range = record { first = first; last = next - 1 } } ∷ []
    → map procedure_of whole ≡ map procedure_of new ++ paragraph_procedures first (paragraphs_or_one given)
    → map procedure_of whole ≡ map procedure_of old ++ section_procedures first one
section_listed old new whole one name given first next same count named pushed h =
    let behind : List Paragraph → List tree.Procedure = λ l. paragraph_procedures first (paragraphs_or_one l) in
    let own : Option Name → ℕ → tree.Procedure =
    λ n k. record { name = n; range = record { first = first; last = k - 1 } } in
    h
    ∙ one_more old new (record { name = name; range = record { first = first; last = next - 1 } }) (behind given) pushed
    ∙ ap (λ l. map procedure_of old ++ own (option_copied name) next ∷ behind l) same
    ∙ ap (λ n. map procedure_of old ++ own n next ∷ behind one.paragraphs) named
    ∙ ap (λ k. map procedure_of old ++ own one.name k ∷ behind one.paragraphs) count
