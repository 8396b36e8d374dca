use Rattle.std.proofs.Common.{◌∙◌, ℕ, take, drop, sym, ap, arith}
use Rattle.std.proofs.Common.{rules}
use Rattle.pages.proofs.Roots.{not_counted, not_blank, is_there}
use Rattle.pages.proofs.root.payload_root.Goals as goal

pub returns-then-numbers-count-clause-found : goal.returns-then-numbers-count-clause-found
returns-then-numbers-count-clause-found c =
    not_counted c.args.root.now c.payload_words_of-numbers.result 0 0 c.map_count_of-count.result
    c.payload_words_of-numbers.ensures (search rules) c.map_count_of-count.ensures c.if-numbers-count.true

pub returns-then-not-is_zeros-clause-found : goal.returns-then-not-is_zeros-clause-found
returns-then-not-is_zeros-clause-found c = not_blank c.args.root.now c.payload_words_of-numbers.result 0
    0 c.map_count_of-count.result c.payload_words_of-numbers.ensures (search rules) c.map_count_of-count.ensures _
    (search rules) c.if-numbers-count.false (sym c.is_zeros.ensures ∙ c.if-not-is_zeros.true)

pub returns-clause-found : goal.returns-clause-found
returns-clause-found c = is_there c.args.root.now c.payload_words_of-numbers.result 0 0 c.map_count_of-count.result
    c.payload_words_of-numbers.ensures (search rules) c.map_count_of-count.ensures _ (search rules)
    c.if-numbers-count.false (sym c.is_zeros.ensures ∙ c.if-not-is_zeros.false)
    c.in_ok-maps.maps.items
    (c.in_ok-maps.ensures.items ∙ ap (λ (n : ℕ). take n (drop 2 c.payload_words_of-numbers.result)) (omega arith))
