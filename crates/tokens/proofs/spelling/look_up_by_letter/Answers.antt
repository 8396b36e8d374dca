use Rattle.std.proofs.Common.{sym, ap, ◌∙◌, arith, rules}
use Rattle.tokens.specs.Spelling.{beginning_with, look_up}
use Rattle.tokens.proofs.spelling.look_up_by_letter.Goals as goal

pub returns-in-65 : goal.returns-in-65
unfolding beginning_with
returns-in-65 c = c.look_up.ensures ∙ ap (λ l. look_up (beginning_with l) c.args.word.now) (sym c.in-65.is)

pub returns-in-66 : goal.returns-in-66
unfolding beginning_with
returns-in-66 c = c.look_up-in-66.ensures ∙ ap (λ l. look_up (beginning_with l) c.args.word.now) (sym c.in-66.is)

pub returns-in-67 : goal.returns-in-67
unfolding beginning_with
returns-in-67 c = c.look_up-in-67.ensures ∙ ap (λ l. look_up (beginning_with l) c.args.word.now) (sym c.in-67.is)

pub returns-in-68 : goal.returns-in-68
unfolding beginning_with
returns-in-68 c = c.look_up-in-68.ensures ∙ ap (λ l. look_up (beginning_with l) c.args.word.now) (sym c.in-68.is)

pub returns-in-69 : goal.returns-in-69
unfolding beginning_with
returns-in-69 c = c.look_up-in-69.ensures ∙ ap (λ l. look_up (beginning_with l) c.args.word.now) (sym c.in-69.is)

pub returns-in-70 : goal.returns-in-70
unfolding beginning_with
returns-in-70 c = c.look_up-in-70.ensures ∙ ap (λ l. look_up (beginning_with l) c.args.word.now) (sym c.in-70.is)

pub returns-in-71 : goal.returns-in-71
unfolding beginning_with
returns-in-71 c = c.look_up-in-71.ensures ∙ ap (λ l. look_up (beginning_with l) c.args.word.now) (sym c.in-71.is)

pub returns-in-72 : goal.returns-in-72
unfolding beginning_with
returns-in-72 c = c.look_up-in-72.ensures ∙ ap (λ l. look_up (beginning_with l) c.args.word.now) (sym c.in-72.is)

pub returns-in-73 : goal.returns-in-73
unfolding beginning_with
returns-in-73 c = c.look_up-in-73.ensures ∙ ap (λ l. look_up (beginning_with l) c.args.word.now) (sym c.in-73.is)

pub returns-in-74 : goal.returns-in-74
unfolding beginning_with
returns-in-74 c = c.look_up-in-74.ensures ∙ ap (λ l. look_up (beginning_with l) c.args.word.now) (sym c.in-74.is)

pub returns-in-75 : goal.returns-in-75
unfolding beginning_with
returns-in-75 c = c.look_up-in-75.ensures ∙ ap (λ l. look_up (beginning_with l) c.args.word.now) (sym c.in-75.is)

pub returns-in-76 : goal.returns-in-76
unfolding beginning_with
returns-in-76 c = c.look_up-in-76.ensures ∙ ap (λ l. look_up (beginning_with l) c.args.word.now) (sym c.in-76.is)

pub returns-in-77 : goal.returns-in-77
unfolding beginning_with
returns-in-77 c = c.look_up-in-77.ensures ∙ ap (λ l. look_up (beginning_with l) c.args.word.now) (sym c.in-77.is)

pub returns-in-78 : goal.returns-in-78
unfolding beginning_with
returns-in-78 c = c.look_up-in-78.ensures ∙ ap (λ l. look_up (beginning_with l) c.args.word.now) (sym c.in-78.is)

pub returns-in-79 : goal.returns-in-79
unfolding beginning_with
returns-in-79 c = c.look_up-in-79.ensures ∙ ap (λ l. look_up (beginning_with l) c.args.word.now) (sym c.in-79.is)

pub returns-in-80 : goal.returns-in-80
unfolding beginning_with
returns-in-80 c = c.look_up-in-80.ensures ∙ ap (λ l. look_up (beginning_with l) c.args.word.now) (sym c.in-80.is)

pub returns-in-81 : goal.returns-in-81
unfolding beginning_with
returns-in-81 c = c.look_up-in-81.ensures ∙ ap (λ l. look_up (beginning_with l) c.args.word.now) (sym c.in-81.is)

pub returns-in-82 : goal.returns-in-82
unfolding beginning_with
returns-in-82 c = c.look_up-in-82.ensures ∙ ap (λ l. look_up (beginning_with l) c.args.word.now) (sym c.in-82.is)

pub returns-in-83 : goal.returns-in-83
unfolding beginning_with
returns-in-83 c = c.look_up-in-83.ensures ∙ ap (λ l. look_up (beginning_with l) c.args.word.now) (sym c.in-83.is)

pub returns-in-84 : goal.returns-in-84
unfolding beginning_with
returns-in-84 c = c.look_up-in-84.ensures ∙ ap (λ l. look_up (beginning_with l) c.args.word.now) (sym c.in-84.is)

pub returns-in-85 : goal.returns-in-85
unfolding beginning_with
returns-in-85 c = c.look_up-in-85.ensures ∙ ap (λ l. look_up (beginning_with l) c.args.word.now) (sym c.in-85.is)

pub returns-in-86 : goal.returns-in-86
unfolding beginning_with
returns-in-86 c = c.look_up-in-86.ensures ∙ ap (λ l. look_up (beginning_with l) c.args.word.now) (sym c.in-86.is)

pub returns-in-87 : goal.returns-in-87
unfolding beginning_with
returns-in-87 c = c.look_up-in-87.ensures ∙ ap (λ l. look_up (beginning_with l) c.args.word.now) (sym c.in-87.is)

pub returns-in-90 : goal.returns-in-90
unfolding beginning_with
returns-in-90 c = c.look_up-in-90.ensures ∙ ap (λ l. look_up (beginning_with l) c.args.word.now) (sym c.in-90.is)

pub returns-in_default : goal.returns-in_default
unfolding beginning_with look_up
returns-in_default c = first_of (search rules, grind arith)
