use Rattle.std.proofs.Common.{◌≡◌, ◌≤◌, ◌-◌, ◌*◌, [], length}
use Rattle.picture.specs.Runs.{symbol_count}
use Rattle.picture.specs.Text.{most_characters, count_limit, runs_from}
use Rattle.picture.proofs.text.runs_of.Given as goal

abbrev pub invariant-loop-turn : goal.invariant-loop-turn
invariant-loop-turn l = record {
  read : runs_from most_characters [] l.text ≡ runs_from (most_characters - l._turn) l.runs l.rest;
  most : symbol_count l.runs ≤ l._turn * count_limit;
  within : length l.rest ≤ most_characters;
}
