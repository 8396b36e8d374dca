use Rattle.std.proofs.Common.{rules, ◌≡◌, ◌<◌, ◌++◌, ℕ, List, get_or, length, min, sym, ◌∙◌, ap, subst, arith}
use Rattle.std.specs.Prelude.{count_by, Vec}
use Rattle.std.specs.declared.alloc.Global.{Global}
use Rattle.std.proofs.lemmas.List.{append-nil}
use Rattle.station.specs.Replay.{is_take, made_of, state_after_calls}
use Rattle.station.specs.State.{State, overlaid, took_line, if_any}
use Rattle.station.specs.Journal.{journal_history}
use Rattle.station.proofs.Lines.{no_line_after, next_line_after, none_left, some_left}
use Rattle.station.proofs.journal.Journal.line.Goals as goal

pub returns-then-taken-len-clause-taken : goal.returns-then-taken-len-clause-taken
returns-then-taken-len-clause-taken c =
    let j = c.args.self.now in
    let count : c.taken_lines-taken.result ≡ count_by is_take j.calls.items =
    c.taken_lines-taken.ensures ∙ ap (count_by is_take) c.deref.ensures.value in
    no_line_after j.start.items j.lines.items j.calls.items c.args.into.now (omega (arith, count))

pub returns-then-taken-len-clause-history : goal.returns-then-taken-len-clause-history
returns-then-taken-len-clause-history c =
    let j = c.args.self.now in
    let count : c.taken_lines-taken.result ≡ count_by is_take j.calls.items =
    c.taken_lines-taken.ensures ∙ ap (count_by is_take) c.deref.ensures.value in
    let s = state_after_calls (made_of j.start.items j.lines.items) j.calls.items in
    sym (append-nil (journal_history j)) ∙ ap (λ (l : List (List ℕ)). journal_history j ++ if_any l (took_line s))
    (sym (none_left j.start.items j.lines.items j.calls.items (omega (arith, count))))

pub index-requires : goal.index-requires
index-requires c =
    let same : c.add.new.self.lines ≡ c.args.self.now.lines = c.in_ok-add.ensures.lines in
    let within : c.taken_lines-taken.result < length c.add.new.self.lines.items =
    omega (arith, ap (λ (v : Vec (Vec ℕ Global) Global). length v.items) same) in
    search rules

pub returns-clause-taken : goal.returns-clause-taken
returns-clause-taken c =
    let j = c.args.self.now in
    let count : c.taken_lines-taken.result ≡ count_by is_take j.calls.items =
    c.taken_lines-taken.ensures ∙ ap (count_by is_take) c.deref.ensures.value in
    let item = subst (λ (v : Vec (Vec ℕ Global) Global). c.index.result.now
    ≡ get_or v.items c.taken_lines-taken.result c.index.result.now) c.in_ok-add.ensures.lines c.index.ensures in
    next_line_after j.start.items j.lines.items j.calls.items c.args.into.now c.index.result.now c.overlay.new.buffer
    c.overlay.result _
    (omega (arith, count))
    (subst (λ k. c.index.result.now ≡ get_or j.lines.items k c.index.result.now) count item)
    c.in_ok-add.ensures.state
    (c.overlay.ensures.count ∙ ap (λ (l : List ℕ). min (length l) (length c.args.into.now)) c.deref-2.ensures.value)
    (c.overlay.ensures.bytes ∙ ap (overlaid c.args.into.now) c.deref-2.ensures.value)

pub returns-clause-history : goal.returns-clause-history
returns-clause-history c =
    let j = c.args.self.now in
    let count : c.taken_lines-taken.result ≡ count_by is_take j.calls.items =
    c.taken_lines-taken.ensures ∙ ap (count_by is_take) c.deref.ensures.value in
    let s = state_after_calls (made_of j.start.items j.lines.items) j.calls.items in
    c.in_ok-add.ensures.history ∙ ap (λ (l : List State). journal_history j ++ l)
    (sym (some_left j.start.items j.lines.items j.calls.items (took_line s) (omega (arith, count))))
