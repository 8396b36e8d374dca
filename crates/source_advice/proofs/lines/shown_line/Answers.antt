use Rattle.std.proofs.Common.{◌≡◌, ◌∙◌, ◌+◌, ℕ, List, [], ap, sym, drop, take}
use Rattle.std.proofs.Math.ListN.{drop_of_length-le}
use Rattle.std.proofs.lemmas.List.{drop_more}
use Rattle.source_advice.specs.Lines.{columns_after, first_bytes, line_of}
use Rattle.source_advice.proofs.lines.shown_line.Goals as goal

pub returns : goal.returns
returns c =
    let items : List ℕ = c.first_bytes-byte-items.result.now in
    let text : List ℕ = c.loop-byte.text.items in
    let none : drop c.loop-byte.byte-index items ≡ [] = drop_of_length-le items c.loop-byte-test.false in
    let line : items ≡ first_bytes (line_of c.args.source.now c.args.number) =
    c.first_bytes-byte-items.ensures ∙ ap first_bytes c.line_of.ensures in
    let all : text ≡ columns_after [] items =
    sym (ap (λ l. columns_after text l) none) ∙ c.loop-byte.invariant in
    c.truncate.ensures.items ∙ ap (λ l. take 100 l) (all ∙ ap (λ l. columns_after [] l) line)

pub loop-byte-init : goal.loop-byte-init
loop-byte-init c = ap (λ l. columns_after l c.first_bytes-byte-items.result.now) c.new-text.ensures.items

pub loop-byte-preserved : goal.loop-byte-preserved
loop-byte-preserved c =
    let items : List ℕ = c.first_bytes-byte-items.result.now in
    let index : ℕ = c.loop-byte.byte-index in
    ap (λ l. columns_after l (drop (index + 1) items)) c.in_ok-push_columns.ensures
    ∙ sym (ap (λ l. columns_after c.loop-byte.text.items l) (drop_more items index 0 c.loop-byte-test.true))
    ∙ c.loop-byte.invariant
