-- A table with one more thing.
use Rattle.std.proofs.Common.{◌≡◌, ℕ, zero, suc, ◌<◌, ◌≤◌, if◌then◌else◌, List, [], ◌∷◌, ◌++◌, length, None, Some}
use Rattle.std.proofs.Common.{get_or, refl, sym, ap, subst, ◌∙◌, ◌⊎◌, inl, inr, length-append, arith}
use Rattle.std.specs.Prelude.{Option}
use Rattle.std.proofs.Math.ListN.{get_or-append}
use Rattle.std.proofs.Math.Seq.{get_or-append_seam}
use Rattle.std.proofs.lemmas.List.{length-map, map-append}
use Rattle.source_tree.specs.declared.name.Name.{Name}
use Rattle.name_table.specs.declared.table.Declared.{Declared}
use Rattle.name_table.specs.declared.table.NameTable.{NameTable}
use Rattle.name_table.specs.Positions.{NamePath, empty_path, has_characters, last_called}
use Rattle.name_table.specs.Table.{called_of, calls_of, calls_in, former, noted_in, IsNoted, IsTable}

pub last_grows : (characters : List ℕ) (calls more : List NamePath) (n : ℕ) → n ≤ length calls
    → last_called characters (calls ++ more) n ≡ last_called characters calls n
unfolding last_called
last_grows characters calls more zero h = refl
last_grows characters calls more (suc n) h =
    let within : n < length calls = omega arith in
    ap (λ (one : NamePath). if has_characters characters one.name then Some n
    else last_called characters (calls ++ more) n) (get_or-append calls more empty_path n within)
    ∙ ap (λ o. if has_characters characters (get_or calls n empty_path).name then Some n else o)
    (last_grows characters calls more n (omega arith))

former_grows : (name : Option Name) (calls more : List NamePath) (n : ℕ) → n ≤ length calls
    → former name (calls ++ more) n ≡ former name calls n
former_grows None calls more n h = refl
former_grows (Some name) calls more n h = last_grows name.characters calls more n h

last_added : (characters : List ℕ) (calls : List NamePath) (one : NamePath)
    → last_called characters (calls ++ one ∷ []) (suc (length calls))
    ≡ (if has_characters characters one.name then Some (length calls) else last_called characters calls (length calls))
unfolding last_called
last_added characters calls one =
    ap (λ (at : NamePath). if has_characters characters at.name then Some (length calls)
    else last_called characters (calls ++ one ∷ []) (length calls)) (get_or-append_seam calls one [] empty_path)
    ∙ ap (λ o. if has_characters characters one.name then Some (length calls) else o)
    (last_grows characters calls (one ∷ []) (length calls) (omega arith))

noted_is : (t : NameTable) → IsTable t → (name : Option Name)
    → noted_in t.last name ≡ former name (calls_in t) (length (calls_in t))
noted_is t table None = refl
noted_is t table (Some name) = table.last name.characters

count_added : {A : Type 0} (xs : List A) (x : A) → length (xs ++ x ∷ []) ≡ suc (length xs)
count_added xs x = let h = length-append xs (x ∷ []) in omega (arith, h)

split : (n m : ℕ) → n < suc m → (n < m) ⊎ (n ≡ m)
split n m h = search arith

before_by : (t : NameTable) → IsTable t → (one : NamePath) (before : Option ℕ) → before ≡ noted_in t.last one.name
    → (n : ℕ) → n < suc (length (calls_in t))
    → get_or (t.before.items ++ before ∷ []) n None
    ≡ former (get_or (calls_in t ++ one ∷ []) n empty_path).name (calls_in t ++ one ∷ []) n
before_by t table one before is n h =
    let same = length-map t.declared.items called_of in
    let count = table.count in
    elim (split n (length (calls_in t)) h) [
      | inl below ↦
          get_or-append t.before.items (before ∷ []) None n (omega arith) ∙ table.before n below
          ∙ sym (former_grows (get_or (calls_in t) n empty_path).name (calls_in t) (one ∷ []) n (omega arith))
          ∙ ap (λ (at : NamePath). former at.name (calls_in t ++ one ∷ []) n)
          (sym (get_or-append (calls_in t) (one ∷ []) empty_path n below))
      | inr last ↦
          let here : n ≡ length t.before.items = omega arith in
          ap (λ k. get_or (t.before.items ++ before ∷ []) k None) here
          ∙ get_or-append_seam t.before.items before [] None
          ∙ is ∙ noted_is t table one.name
          ∙ sym (former_grows one.name (calls_in t) (one ∷ []) (length (calls_in t)) (omega arith))
          ∙ ap (λ (at : NamePath). former at.name (calls_in t ++ one ∷ []) (length (calls_in t)))
          (sym (get_or-append_seam (calls_in t) one [] empty_path))
          ∙ ap (λ k. former (get_or (calls_in t ++ one ∷ []) k empty_path).name (calls_in t ++ one ∷ []) k) (sym last)
    ]

pub grown : (t new : NameTable) → IsTable t → (one : Declared) (before : Option ℕ) (number : ℕ)
    → new.declared.items ≡ t.declared.items ++ one ∷ [] → new.before.items ≡ t.before.items ++ before ∷ []
    → number ≡ length t.declared.items → before ≡ noted_in t.last (called_of one).name
    → IsNoted t.last new.last (called_of one).name number → IsTable new
grown t new table one before number declared befores is was noted =
    let calls = ap calls_of declared ∙ map-append called_of t.declared.items (one ∷ []) in
    let same = length-map t.declared.items called_of in
    let count = table.count in
    let more = ap length calls ∙ count_added (calls_in t) (called_of one) in
    let counted : number ≡ length (calls_in t) = omega arith in
    record {
      count = ap length befores ∙ count_added t.before.items before ∙ ap suc count
          ∙ sym (ap length declared ∙ count_added t.declared.items one);
      last = λ characters. noted characters
          ∙ ap (λ o. if has_characters characters (called_of one).name then Some number else o) (table.last characters)
          ∙ ap (λ n. if has_characters characters (called_of one).name then Some n
          else last_called characters (calls_in t) (length (calls_in t))) counted
          ∙ sym (last_added characters (calls_in t) (called_of one))
          ∙ ap (λ l. last_called characters l (suc (length (calls_in t)))) (sym calls)
          ∙ ap (λ n. last_called characters (calls_in new) n) (sym more);
      before = λ n h.
          ap (λ l. get_or l n None) befores ∙ before_by t table (called_of one) before was n (subst (λ m. n < m) more h)
          ∙ ap (λ l. former (get_or l n empty_path).name l n) (sym calls);
    }
