-- The search along the things of one name, the last one first.
use Rattle.std.proofs.Common.{◌≡◌, ℕ, zero, suc, ◌<◌, ◌≤◌, ◌+◌, Bool, true, false, ◌&&◌, bytes_eq, if◌then◌else◌, List}
use Rattle.std.proofs.Common.{[], ◌∷◌, ◌++◌, length, None, Some, get_or, refl, sym, ap, ◌∙◌, append_assoc, arith}
use Rattle.std.proofs.Common.{◌⊎◌, ⊎_elim}
use Rattle.std.specs.Prelude.{Option}
use Rattle.std.proofs.lemmas.List.{append-nil, length-map, get_or_default, get_or-map}
use Rattle.std.proofs.lemmas.Slice.Eq.{bytes_eq-Decides}
use Rattle.source_tree.specs.declared.name.Name.{Name}
use Rattle.source_tree.specs.declared.reference.QualifiedName.{QualifiedName}
use Rattle.source_tree.specs.Names.{is_within, is_called}
use Rattle.name_table.specs.declared.look_up.LookUp.{LookUp}
use Rattle.name_table.specs.declared.look_up.LookUp.TheVariants.{Unknown}
use Rattle.name_table.specs.declared.table.Declared.{Declared}
use Rattle.name_table.specs.declared.table.NameTable.{NameTable}
use Rattle.name_table.specs.Table.{IsTable, former, called_of, calls_in}
use Rattle.name_table.specs.Positions.{NamePath, empty_path, has_characters, is_named, number_where, positions}
use Rattle.name_table.specs.Positions.{last_called, look_up_of, with_one}

-- one more than the number
abbrev pub left : Option ℕ → ℕ
left None = 0
left (Some n) = n + 1

-- So many are left to look at, of which the next one of this name is the last; what was found is what the others are.
pub record IsSought (reference : QualifiedName) (calls : List NamePath) (next : Option ℕ) (so_far : LookUp) :
    Type 0 where
  pub bound : ℕ
  pub rest : List ℕ
  pub within : bound ≤ length calls
  pub next_is : next ≡ last_called reference.name.characters calls bound
  pub all : positions (is_named reference) calls (length calls) ≡ positions (is_named reference) calls bound ++ rest
  pub found_is : so_far ≡ look_up_of rest

-- what has another name doesn't pass
unnamed : (reference : QualifiedName) (one : NamePath) → has_characters reference.name.characters one.name ≡ false
    → is_named reference one ≡ false
unnamed reference one e = unnamed_by reference one.name one.around e where
  unnamed_by : (reference : QualifiedName) (name : Option Name) (around : List Name)
      → has_characters reference.name.characters name ≡ false
      → (is_called reference.name name && is_within reference.qualifiers around) ≡ false
  unnamed_by reference None around e = refl
  unnamed_by reference (Some name) around e = ap (λ b. b && is_within reference.qualifiers around) e

some_is : (n i : ℕ) → ◌≡◌ {A = Option ℕ} (Some n) (Some i) → n ≡ i
some_is n i e = cc

-- the last one of a name among one more: itself, or the last one among those before
abbrev chosen : Bool → ℕ → Option ℕ → Option ℕ
chosen b n before = if b then Some n else before

last_below_by : (b : Bool) (n i : ℕ) (before : Option ℕ) → (before ≡ Some i → i < n) → chosen b n before ≡ Some i
    → i < suc n
last_below_by true n i before ih h = let same = some_is n i h in omega arith
last_below_by false n i before ih h = let below = ih h in omega arith

pub last_below : (characters : List ℕ) (calls : List NamePath) (n i : ℕ) → last_called characters calls n ≡ Some i
    → i < n
unfolding last_called
last_below characters calls zero i h = cc
last_below characters calls (suc n) i h = last_below_by (has_characters characters (get_or calls n empty_path).name) n i
    (last_called characters calls n) (last_below characters calls n i) h

last_has_by : (b : Bool) (test : ℕ → Bool) (n i : ℕ) (before : Option ℕ) → test n ≡ b
    → (before ≡ Some i → test i ≡ true) → chosen b n before ≡ Some i → test i ≡ true
last_has_by true test n i before e ih h = ap test (sym (some_is n i h)) ∙ e
last_has_by false test n i before e ih h = ih h

pub last_has : (characters : List ℕ) (calls : List NamePath) (n i : ℕ) → last_called characters calls n ≡ Some i
    → has_characters characters (get_or calls i empty_path).name ≡ true
unfolding last_called
last_has characters calls zero i h = cc
last_has characters calls (suc n) i h =
    last_has_by (has_characters characters (get_or calls n empty_path).name) (λ k. has_characters characters
    (get_or calls k empty_path).name) n i (last_called characters calls n) refl (last_has characters calls n i) h

-- ---- those before it of the same name

cut_by : (b : Bool) (test : ℕ → Bool) (at : ℕ → List ℕ) (n i : ℕ) (before : Option ℕ) → (b ≡ false → test n ≡ false)
    → (before ≡ Some i → at n ≡ at i ++ number_where (test i) i)
    → chosen b n before ≡ Some i → at n ++ number_where (test n) n ≡ at i ++ number_where (test i) i
cut_by true test at n i before fails ih h = ap (λ k. at k ++ number_where (test k) k) (some_is n i h)
cut_by false test at n i before fails ih h = ap (λ b. at n ++ number_where b n) (fails refl) ∙ append-nil (at n) ∙ ih h

pub cut : (reference : QualifiedName) (calls : List NamePath) (n i : ℕ)
    → last_called reference.name.characters calls n ≡ Some i
    → positions (is_named reference) calls n
    ≡ positions (is_named reference) calls i ++ number_where (is_named reference (get_or calls i empty_path)) i
unfolding last_called positions
cut reference calls zero i h = cc
cut reference calls (suc n) i h =
    cut_by (has_characters reference.name.characters (get_or calls n empty_path).name)
    (λ k. is_named reference (get_or calls k empty_path)) (positions (is_named reference) calls) n i
    (last_called reference.name.characters calls n)
    (unnamed reference (get_or calls n empty_path)) (cut reference calls n i) h

none_by : (b : Bool) (n : ℕ) (before : Option ℕ) (test : Bool) (at : List ℕ) → (b ≡ false → test ≡ false)
    → (before ≡ None → at ≡ []) → chosen b n before ≡ None → at ++ number_where test n ≡ []
none_by true n before test at fails ih h = cc
none_by false n before test at fails ih h = ap (λ b. at ++ number_where b n) (fails refl) ∙ append-nil at ∙ ih h

pub none_left : (reference : QualifiedName) (calls : List NamePath) (n : ℕ)
    → last_called reference.name.characters calls n ≡ None → positions (is_named reference) calls n ≡ []
unfolding last_called positions
none_left reference calls zero h = refl
none_left reference calls (suc n) h =
    none_by (has_characters reference.name.characters (get_or calls n empty_path).name) n
    (last_called reference.name.characters calls n) (is_named reference (get_or calls n empty_path))
    (positions (is_named reference) calls n)
    (unnamed reference (get_or calls n empty_path)) (none_left reference calls n) h

-- ---- one turn of the search

with_found : (n : ℕ) (rest : List ℕ) → look_up_of (n ∷ rest) ≡ with_one n (look_up_of rest)
with_found n [] = refl
with_found n (one ∷ []) = refl
with_found n (one ∷ other ∷ more) = refl

found_where : (b : Bool) (n : ℕ) (rest : List ℕ) (so_far now : LookUp) → so_far ≡ look_up_of rest
    → now ≡ (if b then with_one n so_far else so_far) → now ≡ look_up_of (number_where b n ++ rest)
found_where true n rest so_far now e is = is ∙ ap (with_one n) e ∙ sym (with_found n rest)
found_where false n rest so_far now e is = is ∙ e

pub sought_at : (reference : QualifiedName) (calls : List NamePath) (i : ℕ) (so_far : LookUp)
    → IsSought reference calls (Some i) so_far → i < length calls
sought_at reference calls i so_far h = let below =
    last_below reference.name.characters calls h.bound i (sym h.next_is) in let within = h.within in omega arith

sought_name : (reference : QualifiedName) (calls : List NamePath) (i : ℕ) (so_far : LookUp) → IsSought reference
    calls (Some i) so_far → has_characters reference.name.characters (get_or calls i empty_path).name ≡ true
sought_name reference calls i so_far h = last_has reference.name.characters calls h.bound i (sym h.next_is)

sought_step : (reference : QualifiedName) (calls : List NamePath) (i : ℕ) (next : Option ℕ) (so_far now : LookUp)
    → IsSought reference calls (Some i) so_far
    → next ≡ last_called reference.name.characters calls i
    → now ≡ (if is_named reference (get_or calls i empty_path) then with_one i so_far else so_far)
    → IsSought reference calls next now
sought_step reference calls i next so_far now h is told =
    let at = sought_at reference calls i so_far h in
    record {
      bound = i;
      rest = number_where (is_named reference (get_or calls i empty_path)) i ++ h.rest;
      within = omega arith;
      next_is = is;
      all = h.all ∙ ap (λ l. l ++ h.rest) (cut reference calls h.bound i (sym h.next_is))
          ∙ append_assoc (positions (is_named reference) calls i)
          (number_where (is_named reference (get_or calls i empty_path)) i) h.rest;
      found_is = found_where (is_named reference (get_or calls i empty_path)) i h.rest so_far now h.found_is told;
    }

pub sought_end : (reference : QualifiedName) (calls : List NamePath) (so_far : LookUp)
    → IsSought reference calls None so_far → so_far ≡ look_up_of (positions (is_named reference) calls (length calls))
sought_end reference calls so_far h =
    h.found_is ∙ ap look_up_of (sym (h.all ∙ ap (λ l. l ++ h.rest) (none_left reference calls h.bound (sym h.next_is))))

pub sought_start : (reference : QualifiedName) (calls : List NamePath) (next : Option ℕ)
    → next ≡ last_called reference.name.characters calls (length calls) → IsSought reference calls next Unknown
sought_start reference calls next is =
    record {
      bound = length calls;
      rest = [];
      within = omega arith;
      next_is = is;
      all = sym (append-nil (positions (is_named reference) calls (length calls)));
      found_is = refl;
    }

-- ---- a name that is the one that is sought

same_characters : (one other : List ℕ) → bytes_eq one other ≡ true → one ≡ other
same_characters one other e = (bytes_eq-Decides one other).0 e

pub former_is : (characters : List ℕ) (name : Option Name) (calls : List NamePath) (n : ℕ)
    → has_characters characters name ≡ true → former name calls n ≡ last_called characters calls n
former_is characters None calls n e = cc
former_is characters (Some name) calls n e =
    ap (λ c. last_called c calls n) (sym (same_characters characters name.characters e))

pub named_is : (reference : QualifiedName) (name : Option Name) (around : List Name)
    → has_characters reference.name.characters name ≡ true
    → (is_called reference.name name && is_within reference.qualifiers around) ≡ is_within reference.qualifiers around
named_is reference None around e = cc
named_is reference (Some name) around e = ap (λ b. b && is_within reference.qualifiers around) e

pub within_is : (reference : QualifiedName) (one : NamePath) (qualifiers : List Name) (around : List Name) (r : Bool)
    → has_characters reference.name.characters one.name ≡ true → qualifiers ≡ reference.qualifiers → around ≡ one.around
    → r ≡ is_within qualifiers around → is_named reference one ≡ r
within_is reference one qualifiers around r named same about is =
    named_is reference one.name one.around named
    ∙ sym (is ∙ ap (λ q. is_within q around) same ∙ ap (is_within reference.qualifiers) about)

-- ---- the search in a table

pub is_declared : (t : NameTable) (reference : QualifiedName) (i : ℕ) (so_far : LookUp)
    → IsSought reference (calls_in t) (Some i) so_far → i < length t.declared.items
is_declared t reference i so_far h = let at = sought_at reference (calls_in t) i so_far h in let same =
    length-map t.declared.items called_of in omega arith

pub former_in : (t : NameTable) → IsTable t → (reference : QualifiedName) (i : ℕ) (so_far : LookUp) (next : Option ℕ)
    → IsSought reference (calls_in t) (Some i) so_far → next ≡ get_or t.before.items i next
    → next ≡ last_called reference.name.characters (calls_in t) i
former_in t table reference i so_far next h is =
    let at = is_declared t reference i so_far h in
    let count = table.count in
    is ∙ get_or_default t.before.items i next None (omega arith)
    ∙ table.before i (sought_at reference (calls_in t) i so_far h)
    ∙ former_is reference.name.characters (get_or (calls_in t) i empty_path).name (calls_in t) i
    (sought_name reference (calls_in t) i so_far h)

pub smaller : (characters : List ℕ) (calls : List NamePath) (i : ℕ) (next : Option ℕ)
    → next ≡ last_called characters calls i → left next < i + 1
smaller characters calls i None e = omega arith
smaller characters calls i (Some n) e = let below = last_below characters calls i n (sym e) in omega arith

passes_at : (reference : QualifiedName) (calls : List NamePath) (i : ℕ) (one : NamePath) (qualifiers : List Name)
    (around : List Name) (r : Bool) → get_or calls i empty_path ≡ one
    → has_characters reference.name.characters (get_or calls i empty_path).name ≡ true
    → qualifiers ≡ reference.qualifiers → around ≡ one.around → r ≡ is_within qualifiers around
    → is_named reference (get_or calls i empty_path) ≡ r
passes_at reference calls i one qualifiers around r e named same about is =
    ap (is_named reference) e ∙ within_is reference one qualifiers around r
    (ap (λ (c : NamePath). has_characters reference.name.characters c.name) (sym e) ∙ named) same about is

-- one turn: what is declared at the number was tested, and is among what was found if it passes
pub sought_turn : (t : NameTable) → IsTable t → (reference : QualifiedName) (i : ℕ) (so_far now : LookUp)
    (next : Option ℕ) (one : Declared) (qualifiers around : List Name) (passes : Bool)
    → IsSought reference (calls_in t) (Some i) so_far → next ≡ get_or t.before.items i next
    → one ≡ get_or t.declared.items i one → qualifiers ≡ reference.qualifiers → around ≡ (called_of one).around
    → passes ≡ is_within qualifiers around
    → ((passes ≡ true) × (now ≡ with_one i so_far)) ⊎ ((passes ≡ false) × (now ≡ so_far))
    → IsSought reference (calls_in t) next now
sought_turn t table reference i so_far now next one qualifiers around passes h next_is one_is same about is found =
    let here = get_or-map called_of t.declared.items i one empty_path (is_declared t reference i so_far h)
    ∙ ap called_of (sym one_is) in
    let tested = passes_at reference (calls_in t) i (called_of one) qualifiers around passes here
    (sought_name reference (calls_in t) i so_far h) same about is in
    sought_step reference (calls_in t) i next so_far now h (former_in t table reference i so_far next h next_is)
    (⊎_elim (λ yes. yes.1 ∙ ap (λ b. if b then with_one i so_far else so_far) (sym (tested ∙ yes.0)))
    (λ no. no.1 ∙ ap (λ b. if b then with_one i so_far else so_far) (sym (tested ∙ no.0))) found)
