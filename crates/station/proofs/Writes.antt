-- Blocks, written one after the other.
use Rattle.std.proofs.Common.{◌≡◌, ◌<◌, ◌+◌, ℕ, List, [], ◌∷◌, ◌++◌, length, map, take, get_or, refl, sym, ◌∙◌, ap}
use Rattle.std.proofs.Common.{subst}
use Rattle.std.specs.Prelude.{Contains}
use Rattle.std.proofs.lemmas.List.{take_more, get_or-map, length-map}
use Rattle.std.proofs.lemmas.List.Elements.{Contains-get_or}
use Rattle.station.specs.Disk.{Sector, idle_disk, OnlyWrote}
use Rattle.station.specs.State.{State, Event, wrote, MayHaveWritten, SameConsole}
use Rattle.station.specs.History.{Moves, Through}
use Rattle.station.proofs.Spans.{moves_on}
use Rattle.station.proofs.Crash.{settled_wrote, write_only, write_events, write_console, console_then}
use Rattle.station.specs.declared.blocks.Block.{Block}
use Rattle.station.specs.Blocks.{IsAt, IsWriting, wrote_all}

wrote_more : (s : State) (xs : List Block) (b : Block)
    → wrote_all s (xs ++ b ∷ []) ≡ wrote (wrote_all s xs) b.sector b.bytes
wrote_more s [] b = refl
wrote_more s (x ∷ xs) b = wrote_more (wrote s x.sector x.bytes) xs b

pub wrote_next : (s : State) (blocks : List Block) (i : ℕ) (d : Block) → i < length blocks
    → wrote_all s (take (i + 1) blocks)
    ≡ wrote (wrote_all s (take i blocks)) (get_or blocks i d).sector (get_or blocks i d).bytes
wrote_next s blocks i d lt =
    ap (wrote_all s) (take_more blocks i d lt) ∙ wrote_more s (take i blocks) (get_or blocks i d)

pub next_wrote : (start : State) (blocks : List Block) (old new : State) (i : ℕ) (d block : Block) (bytes : Sector)
    → i < length blocks → block ≡ get_or blocks i d → bytes ≡ block.bytes → old ≡ wrote_all start (take i blocks)
    → new ≡ wrote old block.sector bytes → new ≡ wrote_all start (take (i + 1) blocks)
next_wrote start blocks old new i d block bytes lt is same so_far one =
    one ∙ ap (λ (b : Sector). wrote old block.sector b) same ∙ ap (λ (b : Block). wrote old b.sector b.bytes) is
    ∙ ap (λ (s : State). wrote s (get_or blocks i d).sector (get_or blocks i d).bytes) so_far
    ∙ sym (wrote_next start blocks i d lt)

pub is_at : (blocks : List Block) (i : ℕ) (d : Block) → i < length blocks
    → Contains (map (λ (b : Block). b.sector) blocks) (get_or blocks i d).sector
is_at blocks i d lt =
    subst (Contains (map (λ (b : Block). b.sector) blocks)) (get_or-map (λ (b : Block). b.sector) blocks i d 0 lt)
    (Contains-get_or (map (λ (b : Block). b.sector) blocks) i 0 (rw (length-map blocks (λ (b : Block). b.sector)) lt))

pub start_writing : (s : State) (base : List Sector) (blocks : List Block) → s.disk ≡ idle_disk base
    → IsWriting s.events base blocks s
start_writing s base blocks same =
    record { events = refl; only = subst (OnlyWrote base (IsAt blocks)) (sym same) (settled_wrote base (IsAt blocks)) }

pub writing_on : (seen : List Event) (base : List Sector) (blocks : List Block) (old : State) (k : ℕ) (d : Block)
    (new : State) → k < length blocks → IsWriting seen base blocks old
    → MayHaveWritten old (get_or blocks k d).sector (get_or blocks k d).bytes new → IsWriting seen base blocks new
writing_on seen base blocks old k d new lt so_far may = record {
  events = write_events old (get_or blocks k d).sector (get_or blocks k d).bytes new may ∙ so_far.events;
  only = write_only base (IsAt blocks) old (get_or blocks k d).sector (get_or blocks k d).bytes new so_far.only
      (is_at blocks k d lt) may;
}

-- the write of the next block
pub next_moments : (a b c : List State) (seen : List Event) (base : List Sector) (blocks : List Block)
    (old new : State) (k : ℕ) (d block : Block) (bytes : Sector) → k < length blocks → block ≡ get_or blocks k d
    → bytes ≡ block.bytes → Through a b old (IsWriting seen base blocks) → Moves b old c new
    → MayHaveWritten old block.sector bytes new → Through a c new (IsWriting seen base blocks)
next_moments a b c seen base blocks old new k d block bytes lt is same so_far moves may =
    moves_on a b c old new (IsWriting seen base blocks) so_far moves
    (writing_on seen base blocks old k d new lt so_far.now
    (subst (λ (b : Block). MayHaveWritten old b.sector b.bytes new) is
    (subst (λ (b : Sector). MayHaveWritten old block.sector b new) same may)))

pub console_on : (old : State) (mid : State) (i : ℕ) (b : List ℕ) (new : State) → SameConsole old mid
    → MayHaveWritten mid i b new → SameConsole old new
console_on old mid i b new so_far may = console_then old mid new so_far (write_console mid i b new may)
