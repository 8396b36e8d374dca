-- A branch: one of two parts.
use Rattle.std.proofs.Common.{◌≡◌, ℕ, ◌+◌, length, refl, sym, ap, ◌∙◌, arith, length-append}
use Rattle.code_image.specs.declared.code.Code.{Code}
use Rattle.data_instructions.specs.declared.tables.DataTables.{DataTables}
use Rattle.condition_codegen.specs.Fragments.{Fragment, no_tables, joined_tables, append, sequence}
use Rattle.condition_codegen.specs.Meeting.{branch_code, jump_code, join_code, either_fragment}
use Rattle.condition_codegen.proofs.Fragments.{tables_nothing}
use Rattle.codegen.proofs.Blind.{Alike, alike_joined, Blind}

-- the branch, both parts, and what stands between and after them
abbrev pub laid_out : ℕ → Code → ℕ → Code → Code
laid_out other one end two = append (branch_code other) (append one (append (jump_code end) (append two join_code)))

-- what stands before the second part, while it isn't known where that is
abbrev before_second : Code → Code → Code
before_second before one = append before (append (branch_code 0) (append one (jump_code 0)))

abbrev behind_second : Code → Code → Code → ℕ
behind_second before one two = length (append (before_second before one) two).instructions + 1

abbrev either_from : Code → Code → Code → Code
either_from before one two =
    laid_out (length (before_second before one).instructions) one (behind_second before one two) two

-- either of pieces that are the same
pub either_map : (first other_first second other_second : Fragment)
    → ((before : Code) → first before ≡ other_first before) → ((before : Code) → second before ≡ other_second before)
    → (before : Code) → either_fragment first second before ≡ either_fragment other_first other_second before
either_map first other_first second other_second f g before =
    let one = other_first (append before (branch_code 0)) in
    ap (λ (c : Code). either_from before c (second (before_second before c))) (f (append before (branch_code 0)))
    ∙ ap (either_from before one) (g (before_second before one))

same_layout : (n m j k : ℕ) (a b c d : Code) → n ≡ m → a ≡ b → j ≡ k → c ≡ d → laid_out n a j c ≡ laid_out m b k d
same_layout n m j k a b c d p q r s =
    ap (λ (i : ℕ). laid_out i a j c) p ∙ ap (λ (x : Code). laid_out m x j c) q ∙ ap (λ (i : ℕ). laid_out m b i c) r
    ∙ ap (λ (x : Code). laid_out m b k x) s

pub either_blind : (first second : Fragment) → Blind first → Blind second → Blind (either_fragment first second)
either_blind first second f g = record {
  by = λ a b alike.
      let branches = alike_joined a b (branch_code 0) (branch_code 0) alike refl in
      let one = f.by (append a (branch_code 0)) (append b (branch_code 0)) branches in
      let x = first (append a (branch_code 0)) in
      let y = first (append b (branch_code 0)) in
      let middles = alike_joined a b (append (branch_code 0) (append x (jump_code 0)))
      (append (branch_code 0) (append y (jump_code 0))) alike
      (ap (λ (c : Code). append (branch_code 0) (append c (jump_code 0))) one) in
      let two = g.by (before_second a x) (before_second b y) middles in
      let ends = alike_joined (before_second a x) (before_second b y) (second (before_second a x))
      (second (before_second b y)) middles two in
      same_layout _ _ _ _ x y (second (before_second a x)) (second (before_second b y)) middles.count one
      (ap (λ n. n + 1) ends.count) two;
}

-- The parts of a branch where they stand: none depends on where the branch and the jump lead.
pub record Laid (first second : Fragment) (before part : Code) : Type 0 where
  -- where the branch leads, and where the jump leads
  pub other : ℕ
  pub end : ℕ
  pub is : part ≡ sequence (λ now. branch_code other)
      (sequence first (sequence (λ now. jump_code end) (sequence second (λ now. join_code)))) before
  pub other_is : (let inner = append before (branch_code other) in
      other ≡ length (append (append inner (first inner)) (jump_code end)).instructions)
  pub end_is : (let inner = append before (branch_code other) in let outer = append (append inner (first inner))
      (jump_code end) in end ≡ length (append outer (second outer)).instructions + 1)

pub either_laid : (first second : Fragment) → Blind first → Blind second → (before : Code)
    → Laid first second before (either_fragment first second before)
either_laid first second f g before =
    let x = first (append before (branch_code 0)) in
    let middle = before_second before x in
    let two = second middle in
    let other = length middle.instructions in
    let end = behind_second before x two in
    let inner = append before (branch_code other) in
    let outer = append (append inner (first inner)) (jump_code end) in
    let h0 = length-append before.instructions (branch_code 0).instructions in
    let h1 = length-append before.instructions (branch_code other).instructions in
    let one = f.by (append before (branch_code 0)) inner (record { tables = refl; count = omega (arith, h0, h1) }) in
    let h2 = length-append before.instructions (append (branch_code 0) (append x (jump_code 0))).instructions in
    let h3 = length-append x.instructions (jump_code 0).instructions in
    let h4 = length-append (append inner (first inner)).instructions (jump_code end).instructions in
    let h5 = length-append inner.instructions (first inner).instructions in
    let same : length x.instructions ≡ length (first inner).instructions =
    ap (λ (c : Code). length c.instructions) one in
    let count : other ≡ length outer.instructions = omega (arith, h1, h2, h3, h4, h5, same) in
    let tables : middle.tables ≡ outer.tables =
    ap (joined_tables before.tables) (tables_nothing x.tables)
    ∙ ap (λ (c : Code). joined_tables before.tables c.tables) one
    ∙ sym (tables_nothing (joined_tables (joined_tables before.tables no_tables) (first inner).tables)
    ∙ ap (λ (t : DataTables). joined_tables t (first inner).tables) (tables_nothing before.tables)) in
    let alike : Alike middle outer = record { tables = tables; count = count } in
    let last = g.by middle outer alike in
    record {
      other = other;
      end = end;
      is = same_layout other other end end x (first inner) two (second outer) refl one refl last;
      other_is = count;
      end_is = ap (λ n. n + 1) (alike_joined middle outer two (second outer) alike last).count;
    }
