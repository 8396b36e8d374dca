-- SELECTs and the input-output section: what is read is spelled, and what is spelled is read.
use Rattle.std.proofs.Common.{◌≡◌, ◌≤◌, true, Bool, List, [], ◌∷◌, length, Ok, refl, sym, ap, subst, arith}
use Rattle.tokens.specs.declared.reserved.Reserved.{Reserved}
use Rattle.tokens.specs.declared.reserved.Reserved.TheVariants as w
use Rattle.tokens.specs.declared.token.Token.{Token}
use Rattle.source_tree.specs.declared.name.Name.{Name}
use Rattle.source_tree.specs.declared.select.AssignedName.{AssignedName}
use Rattle.source_tree.specs.declared.select.Select.{Select}
use Rattle.grammar.specs.declared.fault.Halt.{Halt}
use Rattle.grammar.specs.Parts as parts
use Rattle.grammar.specs.Parts.{Part, ◌then◌, several, lookahead, token_with, word, optional}
use Rattle.grammar.specs.Reading as read
use Rattle.grammar.specs.Reading.{after_word, one_token}
use Rattle.grammar.proofs.Outcomes.{Reached, step, unstep, value, last}
use Rattle.grammar.proofs.Looking.{finds_word, word_begins, tests_tested}
use Rattle.grammar.proofs.Lists as lists
use Rattle.grammar.proofs.Lists.{Sound, Complete, Shrinks, Starts}
use Rattle.grammar.proofs.Parts.{name_sound, name_complete, name_shrinks, word_sound, word_complete, word_shrinks}
use Rattle.grammar.proofs.Parts.{skip_sound, skip_complete, skip_shrinks, one_token_sound, one_token_complete}
use Rattle.grammar.proofs.Parts.{telling_shrinks, stands_sound, stands_complete, stands_shrinks, period_sound}
use Rattle.grammar.proofs.Parts.{period_complete, period_shrinks, heading_sound, heading_complete}
use Rattle.grammar.specs.Gathering.{clauses_from, gathering_reader}
use Rattle.grammar.proofs.Gathering.{gathering_sound, gathering_complete, gathering_shrinks}
use Rattle.grammar.proofs.Listed.{BeginsWith, listed_sound, listed_complete}
use Rattle.file_control.specs.declared.stated.Stated.{Stated}
use Rattle.file_control.specs.Stated.{no_clauses, select_clauses}
use Rattle.file_control.specs.ClauseReading.{clause_reader}
use Rattle.file_control.specs.Selects as g
use Rattle.file_control.specs.Selects.{assigned_in, assigned_reader, select_of, begins_select}
use Rattle.file_control.proofs.Exact.Clauses.{clause_sound, clause_complete, clause_stands, clause_shrinks}

-- ---- the clauses of a SELECT

abbrev clauses : Stated → Part
clauses = clauses_from select_clauses no_clauses

clauses_sound : Sound clauses (gathering_reader select_clauses clause_reader no_clauses)
clauses_sound = gathering_sound select_clauses clause_reader clause_sound no_clauses

clauses_complete : {Allowed : Halt → Type 0}
    → Complete Allowed clauses (gathering_reader select_clauses clause_reader no_clauses)
clauses_complete {Allowed = Allowed} = gathering_complete select_clauses clause_reader Allowed clause_stands
    clause_shrinks (clause_complete {Allowed = Allowed}) no_clauses

-- ---- up to the file's name on the volume

abbrev assigned : Name × AssignedName → Part
assigned both = parts.name both.0 then word w.Assign then optional (word w.To) then token_with assigned_in both.1

assigned_sound : Sound assigned assigned_reader
unfolding assigned_reader
assigned_sound x i rest e =
    unstep (read.name i) _ e (λ given i1 is1 e1.
    unstep (read.expect w.Assign i1) _ e1 (λ u i2 is2 e2.
    unstep (read.skip w.To i2) _ e2 (λ v i3 is3 e3.
    unstep (one_token assigned_in i3) _ e3 (λ one i4 is4 e4.
    subst (λ y. assigned y i rest) (value e4) (
      i1,
      name_sound given i i1 is1,
      (
        i2,
        word_sound w.Assign u i1 i2 is2,
        (i3, skip_sound w.To v i2 i3 is3, one_token_sound assigned_in one i3 rest (last is4 e4)),
      ),
    )))))

assigned_complete : {Allowed : Halt → Type 0} → Complete Allowed assigned assigned_reader
unfolding assigned_reader
assigned_complete x i rest (i1, named, (i2, assign, (i3, to, told))) =
    step (read.name i) _ (name_complete x.0 i i1 named)
    (step (read.expect w.Assign i1) _ (word_complete w.Assign tt i1 i2 assign)
    (step (read.skip w.To i2) _ (skip_complete w.To tt i2 i3 to)
    (step (one_token assigned_in i3) _ (one_token_complete assigned_in x.1 i3 rest told) (Reached refl))))

-- ---- SELECTs

abbrev spelled : Bool → Name → AssignedName → Stated → Part
spelled optional given on_volume all =
    word w.Select then parts.optional_part (word w.Optional) optional then parts.name given then word w.Assign
    then parts.optional (word w.To)
    then token_with assigned_in on_volume then clauses all then parts.period

pub select_sound : Sound g.select g.select_reader
unfolding g.select_reader
select_sound x i rest e =
    unstep (read.expect w.Select i) _ e (λ u i1 is1 e1.
    unstep (read.presence_reader (after_word w.Optional) i1) _ e1 (λ optional i2 is2 e2.
    unstep (assigned_reader i2) _ e2 (λ head i3 is3 e3.
    unstep (gathering_reader select_clauses clause_reader no_clauses i3) _ e3 (λ all i4 is4 e4.
    unstep (read.period i4) _ e4 (λ v i5 is5 e5.
    let s = assigned_sound head i2 i3 is3 in
    let whole : spelled optional head.0 head.1 all i rest = (
      i1,
      word_sound w.Select u i i1 is1,
      (
        i2,
        stands_sound (finds_word w.Optional) optional i1 i2 is2,
        (
          s.0,
          s.1,
          (
            s.2.0,
            s.2.1,
            (s.2.2.0, s.2.2.1, (i3, s.2.2.2, (i4, clauses_sound all i3 i4 is4, period_sound v i4 rest (last is5 e5)))),
          ),
        ),
      ),
    ) in
    subst (λ y. g.select y i rest) (value e5) (all, refl, whole))))))

pub select_complete : {Allowed : Halt → Type 0} → Complete Allowed g.select g.select_reader
unfolding g.select_reader
select_complete x i rest
    (all, is, (i1, first, (i2, optional, (a1, named, (a2, assign, (a3, to, (i3, told, (i4, stated, end)))))))) =
    step (read.expect w.Select i) _ (word_complete w.Select tt i i1 first)
    (step (read.presence_reader (after_word w.Optional) i1) _
    (stands_complete (finds_word w.Optional) x.optional i1 i2 optional)
    (step (assigned_reader i2) _
    (assigned_complete (x.name, x.assigned) i2 i3 (a1, named, (a2, assign, (a3, to, told))))
    (step (gathering_reader select_clauses clause_reader no_clauses i3) _ (clauses_complete all i3 i4 stated)
    (step (read.period i4) _ (period_complete tt i4 rest end) (Reached (ap (λ y. Ok (y, rest)) (sym is)))))))

optional_below : (i rest : List Token) → word w.Optional i rest → length rest ≤ length i
optional_below i rest s = let l = word_shrinks w.Optional i rest s in omega arith

select_shrinks : Shrinks g.select
select_shrinks x i rest
    (all, is, (i1, first, (i2, optional, (a1, named, (a2, assign, (a3, to, (i3, told, (i4, stated, end)))))))) =
    let a = word_shrinks w.Select i i1 first in
    let b = stands_shrinks optional_below x.optional i1 i2 optional in
    let c = name_shrinks x.name i2 a1 named in
    let d = word_shrinks w.Assign a1 a2 assign in
    let e = skip_shrinks w.To a2 a3 to in
    let f = telling_shrinks assigned_in x.assigned a3 i3 told in
    let h = gathering_shrinks select_clauses clause_reader clause_shrinks no_clauses all i3 i4 stated in
    let k = period_shrinks i4 rest end in omega arith

select_starts : Starts begins_select g.select
select_starts x i rest (all, is, (i1, first, more)) = word_begins w.Select i i1 first

-- ---- the input-output section

abbrev selects : List Select → Part
selects = several g.select (lookahead begins_select)

selects_sound : Sound selects (read.several g.select_reader begins_select)
selects_sound = lists.several_sound g.select g.select_reader (lookahead begins_select) begins_select
    (tests_tested begins_select) select_sound

selects_complete : {Allowed : Halt → Type 0} → Complete Allowed selects (read.several g.select_reader begins_select)
selects_complete {Allowed = Allowed} =
    lists.several_complete g.select g.select_reader (lookahead begins_select) begins_select (tests_tested begins_select)
    Allowed (select_complete {Allowed = Allowed}) select_shrinks select_starts

abbrev section_words : List Reserved
section_words = w.InputOutput ∷ w.Section ∷ []

abbrev paragraph_words : List Reserved
paragraph_words = w.FileControl ∷ []

file_control_sound : Sound g.file_control g.file_control_reader
unfolding g.file_control_reader
file_control_sound x i rest e =
    unstep (read.heading_reader section_words i) _ e (λ u i1 is1 e1.
    unstep (read.heading_reader paragraph_words i1) _ e1 (λ v i2 is2 e2. (
      i1,
      heading_sound section_words u i i1 is1,
      (i2, heading_sound paragraph_words v i1 i2 is2, selects_sound x i2 rest e2),
    )))

file_control_complete : {Allowed : Halt → Type 0} → Complete Allowed g.file_control g.file_control_reader
unfolding g.file_control_reader
file_control_complete x i rest (i1, first, (i2, second, all)) =
    step (read.heading_reader section_words i) _ (heading_complete section_words tt i i1 first)
    (step (read.heading_reader paragraph_words i1) _ (heading_complete paragraph_words tt i1 i2 second)
    (selects_complete x i2 rest all))

file_control_begins : (x : List Select) → BeginsWith w.InputOutput (g.file_control x)
file_control_begins x i rest s = word_begins w.InputOutput i s.1.0 s.1.1

pub input_output_sound : Sound g.input_output g.input_output_reader
unfolding g.input_output_reader
input_output_sound = listed_sound w.InputOutput file_control_sound

pub input_output_complete : {Allowed : Halt → Type 0} → Complete Allowed g.input_output g.input_output_reader
unfolding g.input_output_reader
input_output_complete {Allowed = Allowed} =
    listed_complete w.InputOutput file_control_begins (file_control_complete {Allowed = Allowed})
