-- The first fault of SELECTs and of the names of files is that of the rules in their order.
use Rattle.std.proofs.Common.{◌≡◌, ℕ, ◌<◌, ◌+◌, List, [], ◌∷◌, ◌++◌, Some, length, drop, get_or, sym, ap, subst, ◌∙◌}
use Rattle.std.proofs.Common.{drop-cons, add-one}
use Rattle.std.specs.Prelude.{Bool, not, Option}
use Rattle.records.specs.Spec.{is_name}
use Rattle.source_tree.specs.declared.name.Name.{Name}
use Rattle.source_tree.specs.declared.select.AlternateKeyClause.{AlternateKeyClause}
use Rattle.source_tree.specs.declared.select.FileDescription.{FileDescription}
use Rattle.source_tree.specs.declared.select.Select.{Select}
use Rattle.source_tree.specs.Broken.{RuleBreach, where_so, each}
use Rattle.source_tree.specs.FileRules.{most_files, most_alternate_keys, broken_at, broken_match_rule, file_name_rules}
use Rattle.source_tree.specs.FileRules.{excess_key, in_clause, clause_item, key_item, status_item, alternate_rules}
use Rattle.source_tree.specs.FileRules.{organization_rules, select_rules}
use Rattle.source_tree.specs.LookUp.{first}
use Rattle.source_tree.specs.PerformRules.{given_once}
use Rattle.source_tree.specs.Places.{LocatedItem}
use Rattle.source_tree.specs.ProgramFiles.{DescribedFile, described_file, key_place}
use Rattle.entry_rules.specs.Checks.{IsFirst}
use Rattle.declarations.specs.Selecting.{select_rules_in}
use Rattle.declarations.proofs.Firsts.{first_front, first_back, both_none, is_first_front, is_first_behind}

-- ---- the names of files

-- too many SELECTs
pub count_first : (ones others : List Name) (broken : RuleBreach)
    → first (each (broken_at 69) (drop most_files ones)) ≡ Some broken
    → first (file_name_rules ones others) ≡ Some broken
count_first ones others broken found =
    let few = each (broken_at 69) (drop most_files ones) in
    let once = few ++ given_once [] ones in
    let both = once ++ given_once [] others in
    first_front (both ++ each (broken_match_rule others) ones) (each (broken_match_rule ones) others) broken
    (first_front both (each (broken_match_rule others) ones) broken
    (first_front once (given_once [] others) broken (first_front few (given_once [] ones) broken found)))

-- a name that SELECTs give twice
pub once_first : (ones others : List Name) (broken : RuleBreach) → each (broken_at 69) (drop most_files ones) ≡ []
    → first (given_once [] ones) ≡ Some broken → first (file_name_rules ones others) ≡ Some broken
once_first ones others broken none found =
    let few = each (broken_at 69) (drop most_files ones) in
    let once = few ++ given_once [] ones in
    let both = once ++ given_once [] others in
    first_front (both ++ each (broken_match_rule others) ones) (each (broken_match_rule ones) others) broken
    (first_front both (each (broken_match_rule others) ones) broken
    (first_front once (given_once [] others) broken (first_back few (given_once [] ones) broken none found)))

-- a SELECT without FD
pub matched_first : (ones others : List Name) (broken : RuleBreach) → each (broken_at 69) (drop most_files ones) ≡ []
    → given_once [] ones ≡ [] → given_once [] others ≡ []
    → first (each (broken_match_rule others) ones) ≡ Some broken
    → first (file_name_rules ones others) ≡ Some broken
matched_first ones others broken none own other found =
    let few = each (broken_at 69) (drop most_files ones) in
    let once = few ++ given_once [] ones in
    let both = once ++ given_once [] others in
    first_front (both ++ each (broken_match_rule others) ones) (each (broken_match_rule ones) others) broken
    (first_back both (each (broken_match_rule others) ones) broken
    (both_none once (given_once [] others) (both_none few (given_once [] ones) none own) other) found)

-- ---- one SELECT

-- the area that was found for a SELECT is the one that its rules mean
pub select_first : (items : List LocatedItem) (areas area : ℕ) (files listed : List FileDescription)
    (there : DescribedFile) (one : Select) (fault : Option RuleBreach) → area ≡ areas → listed ≡ files
    → there ≡ described_file area one.name listed → IsFirst fault (select_rules_in items area there one)
    → IsFirst fault (select_rules items areas files one)
select_first items areas area files listed there one fault same lists is found =
    let named : there ≡ described_file areas one.name files =
    is ∙ ap (λ (l : List FileDescription). described_file area one.name l) lists
    ∙ ap (λ (n : ℕ). described_file n one.name files) same in
    subst (λ (d : DescribedFile). IsFirst fault (select_rules_in items areas d one)) named
    (subst (λ (n : ℕ). IsFirst fault (select_rules_in items n there one)) same found)

-- what the organization refuses, where the file's name is one
pub organization_first : (items : List LocatedItem) (areas : ℕ) (there : DescribedFile) (one : Select) (named : Bool)
    (fault : Option RuleBreach) → named ≡ is_name one.assigned.characters
    → where_so (not named) 66 one.assigned.place ≡ []
    → IsFirst fault (organization_rules items there one.organization one)
    → IsFirst fault (select_rules_in items areas there one)
organization_first items areas there one named fault is none found =
    let assigned = where_so (not (is_name one.assigned.characters)) 66 one.assigned.place in
    let kept : assigned ≡ [] = ap (λ (b : Bool). where_so (not b) 66 one.assigned.place) (sym is) ∙ none in
    let keys = organization_rules items there one.organization one in
    let excess = each excess_key (drop most_alternate_keys one.alternate_keys) in
    is_first_front fault (assigned ++ keys ++ excess) (in_clause (clause_item items (status_item areas)) one.status)
    (is_first_front fault (assigned ++ keys) excess (is_first_behind fault assigned keys kept found))

-- ---- its alternate keys

-- what is found of one key is found of all from it on
pub alternate_first : (items : List LocatedItem) (there : DescribedFile) (before listed : List ℕ)
    (xs : List AlternateKeyClause) (i : ℕ) (one : AlternateKeyClause) (all : List RuleBreach) (broken : RuleBreach)
    → i < length xs → all ≡ alternate_rules items there before (drop i xs) → one ≡ get_or xs i one → listed ≡ before
    → first (clause_item items (key_item there listed) one.key) ≡ Some broken → first all ≡ Some broken
alternate_first items there before listed xs i one all broken h e is same found =
    let split = ap (alternate_rules items there before) (drop-cons xs i one h) in
    let here : first (clause_item items (key_item there before) (get_or xs i one).key) ≡ Some broken =
    ap (λ (x : AlternateKeyClause). first (clause_item items (key_item there before) x.key)) (sym is)
    ∙ ap (λ (l : List ℕ). first (clause_item items (key_item there l) one.key)) (sym same) ∙ found in
    ap first (e ∙ split) ∙ first_front (clause_item items (key_item there before) (get_or xs i one).key) _ broken here

-- a key that keeps its rules stands before those after it
pub alternate_next : (items : List LocatedItem) (there : DescribedFile) (before listed new : List ℕ) (offset : ℕ)
    (xs : List AlternateKeyClause) (i : ℕ) (one : AlternateKeyClause) (all : List RuleBreach)
    → i < length xs → all ≡ alternate_rules items there before (drop i xs) → one ≡ get_or xs i one → listed ≡ before
    → clause_item items (key_item there listed) one.key ≡ [] → offset ≡ (key_place items one.key).offset
    → new ≡ offset ∷ before → all ≡ alternate_rules items there new (drop (i + 1) xs)
alternate_next items there before listed new offset xs i one all h e is same none placed put =
    let more = drop (i + 1) xs in
    let rest : drop i xs ≡ one ∷ more =
    drop-cons xs i one h ∙ ap (λ k. get_or xs i one ∷ drop k xs) (sym (add-one i)) ∙ ap (λ x. x ∷ more) (sym is) in
    let kept : clause_item items (key_item there before) one.key ≡ [] =
    ap (λ (l : List ℕ). clause_item items (key_item there l) one.key) (sym same) ∙ none in
    e ∙ ap (alternate_rules items there before) rest
    ∙ ap (λ l. l ++ alternate_rules items there ((key_place items one.key).offset ∷ before) more) kept
    ∙ ap (λ (n : ℕ). alternate_rules items there (n ∷ before) more) (sym placed)
    ∙ ap (λ (l : List ℕ). alternate_rules items there l more) (sym put)
