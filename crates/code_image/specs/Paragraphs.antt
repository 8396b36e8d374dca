-- A table of the code paragraphs that addresses are in, and what is known of their order.
use Rattle.std.specs.Prelude.{◌≡◌, ℕ, ◌+◌, ◌≤◌, List, length, slice_index}
use Rattle.perform_graph.specs.declared.order.Order.{Order}
use Rattle.perform_graph.specs.declared.order.Order.TheVariants.{Ranks, Recursive}
use Rattle.code_image.specs.declared.instruction.Instruction.{Instruction}
use Rattle.code_image.specs.Demands.{paragraph_at}

-- the code paragraph of each address, and of the one after the last
pub record ListsParagraphs (instructions : List Instruction) (paragraphs : List ℕ) : Type 0 where
  pub one_each : length paragraphs ≡ length instructions + 1
  pub each : (address : ℕ) → address ≤ length instructions → slice_index paragraphs address ≡ paragraph_at instructions address

-- Ranks of paragraphs were found, and no paragraphs that perform one another.
abbrev pub HasRanks : Order → Type 0
HasRanks (Ranks all) = Unit {0}
HasRanks (Recursive all) = ⊥
