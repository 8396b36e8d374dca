-- Worked examples of the definitions.
use Rattle.std.proofs.Common.{◌≡◌, [], ◌∷◌, refl}
use Rattle.station.specs.Disk.{Disk, Sector, idle_disk}
use Rattle.station.specs.State.{State, Shown, Noted, wrote, state_after_failed_write, state_after_sync}
use Rattle.station.specs.State.{state_after_show, states_while_showing, took_line, states_after_line, overlaid}
use Rattle.station.specs.State.{bytes_of}
use Rattle.station.specs.Choice.{chosen_sectors, state_after_crash}
use Rattle.station.specs.Blocks.{with_all}
use Rattle.station.specs.Plan.{fate_of, plan_after, count_after_call}
use Rattle.station.specs.declared.plan.Plan.TheVariants.{FailsAt, StopsAt}
use Rattle.station.specs.declared.plan.Fate.TheVariants as fates

abbrev a : Sector
a = 65 ∷ []

abbrev b : Sector
b = 66 ∷ []

abbrev c : Sector
c = 67 ∷ []

abbrev d : Sector
d = 68 ∷ []

-- two sectors and two lines
abbrev start : State
start = record { events = []; lines = (72 ∷ 73 ∷ []) ∷ [] ∷ []; disk = idle_disk (a ∷ b ∷ []) }

-- a write is present at once, and isn't stable
written_now : (wrote start 1 c).disk ≡ record { present = a ∷ c ∷ []; stable = a ∷ b ∷ []; written = (1, c) ∷ [] }
written_now = refl

-- a failed write that is kept isn't present
kept_now : (state_after_failed_write start 1 c).disk
    ≡ record { present = a ∷ b ∷ []; stable = a ∷ b ∷ []; written = (1, c) ∷ [] }
kept_now = refl

-- a sync makes stable what is present, and drops what failed
synced_now : (state_after_sync (state_after_failed_write (wrote start 1 c) 0 d)).disk ≡ idle_disk (a ∷ c ∷ [])
synced_now = refl

-- sector 1 was written twice, and then sector 0
abbrev thrice : Disk
thrice = (wrote (wrote (wrote start 1 c) 1 d) 0 d).disk

chosen_none : chosen_sectors thrice [] ≡ a ∷ b ∷ []
chosen_none = refl

-- choices go by the number of the sector, and not by the order of the writes
chosen_first : chosen_sectors thrice (1 ∷ []) ≡ d ∷ b ∷ []
chosen_first = refl

chosen_second : chosen_sectors thrice (0 ∷ 1 ∷ []) ≡ a ∷ c ∷ []
chosen_second = refl

-- a greater choice is the last
chosen_last : chosen_sectors thrice (9 ∷ 9 ∷ []) ≡ d ∷ d ∷ []
chosen_last = refl

-- a sector without writes uses no choice up
chosen_skips : chosen_sectors (wrote start 1 c).disk (1 ∷ []) ≡ a ∷ c ∷ []
chosen_skips = refl

-- a failed write may come back
chosen_failed : chosen_sectors (state_after_failed_write start 0 c).disk (1 ∷ []) ≡ c ∷ b ∷ []
chosen_failed = refl

crash_keeps_events : (state_after_crash (wrote (state_after_show start (72 ∷ [])) 1 c) []).events ≡ Shown 72 ∷ []
crash_keeps_events = refl

-- one state after each byte
shows_two : states_while_showing start (72 ∷ 73 ∷ [])
    ≡ state_after_show start (72 ∷ []) ∷ state_after_show start (72 ∷ 73 ∷ []) ∷ []
shows_two = refl

told_bytes : bytes_of (Shown 72 ∷ Noted (record { file = 0; status = 48 ∷ 48 ∷ [] }) ∷ Shown 73 ∷ []) ≡ 72 ∷ 73 ∷ []
told_bytes = refl

line_fits : overlaid (46 ∷ 46 ∷ 46 ∷ []) (72 ∷ 73 ∷ []) ≡ 72 ∷ 73 ∷ 46 ∷ []
line_fits = refl

line_is_cut : overlaid (46 ∷ []) (72 ∷ 73 ∷ []) ≡ 72 ∷ []
line_is_cut = refl

lines_end : states_after_line (took_line (took_line start)) ≡ []
lines_end = refl

third_fails : fate_of (plan_after (plan_after (FailsAt 3))) ≡ fates.Fails
third_fails = refl

fourth_works : fate_of (plan_after (plan_after (plan_after (FailsAt 3)))) ≡ fates.Works
fourth_works = refl

third_stops : fate_of (plan_after (plan_after (plan_after (StopsAt 3)))) ≡ fates.Stopped
third_stops = refl

failed_counts : count_after_call fates.Fails 5 ≡ 6
failed_counts = refl

stopped_counts_not : count_after_call fates.Stopped 5 ≡ 5
stopped_counts_not = refl

two_blocks : with_all (a ∷ b ∷ c ∷ []) (record { sector = 2; bytes = d } ∷ record { sector = 0; bytes = b } ∷ [])
    ≡ b ∷ b ∷ d ∷ []
two_blocks = refl
