use Rattle.std.proofs.Common.{◌≡◌, ◌*◌, ◌+◌, ◌-◌, ℕ, take, drop, ap, arith}
use Rattle.pages.proofs.table.map_entries.Goals as goal

pub returns-clause-entries : goal.returns-clause-entries
returns-clause-entries c = ap (λ (n : ℕ). take n (drop (1024 * c.args.map) c.args.table.now)) width
  where
    width : 1024 * c.args.map + 1024 - 1024 * c.args.map ≡ 1024
    width = omega arith
