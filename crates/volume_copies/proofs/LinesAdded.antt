-- Lines that become rows, one after the other.
use Rattle.std.proofs.Common.{◌≡◌, ◌≤◌, ◌<◌, ◌+◌, ℕ, suc, List, [], ◌∷◌, ◌++◌, length, Ok, Err, inl, inr}
use Rattle.std.proofs.Common.{refl, sym, ap, subst, ◌∙◌, arith, length-append, append_assoc}
use Rattle.std.specs.Prelude.{slice_index_or}
use Rattle.station.specs.Blocks.{CrashLeaves}
use Rattle.station.specs.Disk.{Disk, Sector, IsCrashImage}
use Rattle.station.specs.History.{Through, EachImage}
use Rattle.station.specs.State.{State, Event}
use Rattle.station.specs.declared.device.Device.{Ghosts as Devices}
use Rattle.station.proofs.Spans.{stays, goes, weakens}
use Rattle.records.specs.declared.file_spec.FileSpec.{FileSpec}
use Rattle.records.specs.declared.keeps.Keeps.{Ghosts as Stores}
use Rattle.records.specs.Files.{File, Files}
use Rattle.records.specs.Stores.{Has}
use Rattle.records.specs.Calls.{Represents}
use Rattle.volume_copies.specs.Lines.{lines_of}
use Rattle.volume_copies.specs.Loaded.{IsNext, following_number, AddsLine, AddsLines, HoldsLines}
use Rattle.volume_copies.specs.Loads.{IsLineEnd, IsEnd, IsDurable, LoadsLines}
use Rattle.volume_copies.specs.OneLine.{WithOrWithout, StaysUnless, AddsOne}
use Rattle.volume_copies.specs.declared.load_end.LoadEnd.{LoadEnd}
use Rattle.volume_copies.specs.declared.load_end.LoadEnd.TheVariants.{Done, UnknownName, Malformed, Rejected, Refused}

-- the first lines of a text, and the rest of the text
pub record IsFront (text rest : List ℕ) (rows : ℕ) : Type 0 where
  pub front : List (List ℕ)
  pub splits : lines_of text ≡ front ++ lines_of rest
  pub many : length front ≡ rows

pub front_nothing : (text : List ℕ) → IsFront text text 0
front_nothing text = record { front = []; splits = refl; many = refl }

at_end : (front : List (List ℕ)) (line : List ℕ) (more : List (List ℕ))
    → slice_index_or (front ++ line ∷ more) (length front) [] ≡ line
at_end [] line more = refl
at_end (one ∷ front) line more = at_end front line more

module _ (text rest : List ℕ) (rows : ℕ) (front : IsFront text rest rows) (line more : List ℕ)
    (splits : lines_of rest ≡ line ∷ lines_of more) where
  whole : lines_of text ≡ front.front ++ line ∷ lines_of more
  whole = front.splits ∙ ap (λ (l : List (List ℕ)). front.front ++ l) splits

  pub next_line_is : slice_index_or (lines_of text) rows [] ≡ line
  next_line_is =
      ap (λ (l : List (List ℕ)). slice_index_or l rows []) whole
      ∙ ap (λ (n : ℕ). slice_index_or (front.front ++ line ∷ lines_of more) n []) (sym front.many)
      ∙ at_end front.front line (lines_of more)

  pub has_next : rows < length (lines_of text)
  has_next = omega (arith, front.many, ap length whole, length-append front.front (line ∷ lines_of more))

  pub front_more : IsFront text more (rows + 1)
  front_more = record {
    front = front.front ++ line ∷ [];
    splits = whole ∙ sym (append_assoc front.front (line ∷ []) (lines_of more));
    many = omega (arith, front.many, length-append front.front (line ∷ []));
  }

pub no_more : (text rest : List ℕ) (rows : ℕ) → IsFront text rest rows → length rest ≡ 0 → rows ≡ length (lines_of text)
no_more text [] rows front none =
    omega (arith, front.many, ap length front.splits, length-append front.front [])
no_more text (byte ∷ rest) rows front none = absurd (omega (arith, none))

-- one line more
pub adds_more : (name : List ℕ) (lines : List (List ℕ)) (before now after : Files) (rows : ℕ) (line : List ℕ)
    → AddsLines name lines before rows now → slice_index_or lines rows [] ≡ line → AddsLine name line now after
    → AddsLines name lines before (rows + 1) after
adds_more name lines before now after rows line adds is one =
    let more : suc rows ≡ rows + 1 = omega arith in
    subst (λ (n : ℕ). AddsLines name lines before n after) more
    (now, adds, subst (λ (l : List ℕ). AddsLine name l now after) (sym is) one)

module _ (holds : List Sector → Files → Type 0) (name : List ℕ) (lines : List (List ℕ)) (before : Files) where
  pub holds_few : (few many : ℕ) (image : List Sector) → few ≤ many → HoldsLines holds name lines before few image
      → HoldsLines holds name lines before many image
  holds_few few many image le there = record {
    count = there.count;
    now = there.now;
    few = omega (arith, le, there.few);
    adds = there.adds;
    there = there.there;
  }

  -- the lines so far, and one more or not
  pub holds_either : (now : Files) (rows : ℕ) (line : List ℕ) (image : List Sector)
      → AddsLines name lines before rows now
      → slice_index_or lines rows [] ≡ line → WithOrWithout holds name line now image
      → HoldsLines holds name lines before (rows + 1) image
  holds_either now rows line image adds is (inl here) =
      record { count = rows; now = now; few = omega arith; adds = adds; there = here }
  holds_either now rows line image adds is (inr (after, one, here)) = record {
    count = rows + 1;
    now = after;
    few = omega arith;
    adds = adds_more name lines before now after rows line adds is one;
    there = here;
  }

  leaves_few : (few many : ℕ) (seen : List Event) (state : State) → few ≤ many
      → CrashLeaves seen (HoldsLines holds name lines before few) state
      → CrashLeaves seen (HoldsLines holds name lines before many) state
  leaves_few few many seen state le leaves = record {
    events = leaves.events;
    images = λ image crash. holds_few few many image le (leaves.images image crash);
  }

  pub through_few : (few many : ℕ) (seen : List Event) (past later : List State) (state : State) → few ≤ many
      → Through past later state (CrashLeaves seen (HoldsLines holds name lines before few))
      → Through past later state (CrashLeaves seen (HoldsLines holds name lines before many))
  through_few few many seen past later state le through =
      weakens past later state (CrashLeaves seen (HoldsLines holds name lines before few))
      (CrashLeaves seen (HoldsLines holds name lines before many)) (λ s leaves. leaves_few few many seen s le leaves)
      through

  -- one line after the others
  pub through_more : (now : Files) (rows : ℕ) (line : List ℕ) (a b c : List State) (start mid new : State)
      → AddsLines name lines before rows now → slice_index_or lines rows [] ≡ line
      → Through a b mid (CrashLeaves start.events (HoldsLines holds name lines before rows))
      → Through b c new (CrashLeaves mid.events (WithOrWithout holds name line now))
      → Through a c new (CrashLeaves start.events (HoldsLines holds name lines before (rows + 1)))
  through_more now rows line a b c start mid new adds is first second =
      let P = CrashLeaves start.events (HoldsLines holds name lines before (rows + 1)) in
      goes a b c mid new P (through_few rows (rows + 1) start.events a b mid (omega arith) first)
      (weakens b c new (CrashLeaves mid.events (WithOrWithout holds name line now)) P
      (λ state leaves. record {
        events = leaves.events ∙ first.now.events;
        images = λ image crash. holds_either now rows line image adds is (leaves.images image crash);
      }) second)

module _ {S : Type 0} (s : Stores S) {D : Type 0} (d : Devices D)
    (held : (store : S) (disk : Disk) (image : List Sector) (files : Files) → s.stands store disk files
    → IsCrashImage disk image → s.holds image files) where
  pub represents_durably : (store : S) (device : D) (files : Files) → Represents s d store device files
      → EachImage (λ image. s.holds image files) (d.state device)
  represents_durably store device files stands = λ image crash.
      held store (d.state device).disk image files stands.there crash

  -- the lines so far are rows
  pub record IsSoFar (spec : FileSpec) (text : List ℕ) (before : Files) (start : D) (rows number : ℕ) (store : S)
      (device : D) : Type 0 where
    pub now : Files
    pub adds : AddsLines spec.name.items (lines_of text) before rows now
    pub stands : Represents s d store device now
    pub file : File
    pub has : Has now spec file
    pub next : IsNext number file
    pub moments : Through (d.history start) (d.history device) (d.state device)
        (CrashLeaves (d.state start).events (HoldsLines s.holds spec.name.items (lines_of text) before rows))

  pub nothing_so_far :
      (spec : FileSpec) (text : List ℕ) (before : Files) (file : File) (number : ℕ) (store : S) (device : D)
      → Represents s d store device before → Has before spec file → IsNext number file
      → IsSoFar spec text before device 0 number store device
  nothing_so_far spec text before file number store device stands has next = record {
    now = before;
    adds = refl;
    stands = stands;
    file = file;
    has = has;
    next = next;
    moments = stays (d.history device) (d.state device) _ (record {
      events = refl;
      images = λ image crash. record {
        count = 0;
        now = before;
        few = omega arith;
        adds = refl;
        there = represents_durably store device before stands image crash;
      };
    });
  }

  module _ (spec : FileSpec) (text rest line more : List ℕ) (before : Files) (start : D) (rows number : ℕ) (store : S)
      (device : D)
      (store' : S) (device' : D) (front : IsFront text rest rows) (splits : lines_of rest ≡ line ∷ lines_of more)
      (so : IsSoFar spec text before start rows number store device) where
    name : List ℕ
    name = spec.name.items

    line_is : slice_index_or (lines_of text) rows [] ≡ line
    line_is = next_line_is text rest rows front line more splits

    moments_more : Through (d.history device) (d.history device') (d.state device')
        (CrashLeaves (d.state device).events (WithOrWithout s.holds spec.name.items line so.now))
        → Through (d.history start) (d.history device') (d.state device')
        (CrashLeaves (d.state start).events (HoldsLines s.holds spec.name.items (lines_of text) before (rows + 1)))
    moments_more = through_more s.holds spec.name.items (lines_of text) before so.now rows line (d.history start)
        (d.history device) (d.history device') (d.state start) (d.state device) (d.state device') so.adds line_is
        so.moments

    one_more : AddsOne s d (Ok tt) spec number line so.now so.file device store' device'
        → IsSoFar spec text before start (rows + 1) (following_number spec.organization number) store' device'
    one_more adds = record {
      now = adds.added.after;
      adds = adds_more spec.name.items (lines_of text) before so.now adds.added.after rows line so.adds line_is
          adds.added.adds;
      stands = adds.added.stands;
      file = adds.added.file;
      has = adds.added.has;
      next = adds.added.next;
      moments = moments_more adds.moments;
    }

    pub one_more_as : (number' : ℕ) → number' ≡ following_number spec.organization number
        → AddsOne s d (Ok tt) spec number line so.now so.file device store' device'
        → IsSoFar spec text before start (rows + 1) number' store' device'
    one_more_as number' same adds =
        subst (λ (n : ℕ). IsSoFar spec text before start (rows + 1) n store' device') (sym same) (one_more adds)

    is_end : (end : LoadEnd) → IsLineEnd end so.file line → IsEnd end (lines_of text) rows so.file
    is_end Done never = absurd never
    is_end UnknownName never = absurd never
    is_end (Malformed fault) why = (
      has_next text rest rows front line more splits,
      subst (IsLineEnd (Malformed fault) so.file) (sym line_is) why,
    )
    is_end (Rejected status) why = (
      has_next text rest rows front line more splits,
      subst (IsLineEnd (Rejected status) so.file) (sym line_is) why,
    )
    is_end (Refused fault) why = (has_next text rest rows front line more splits, why)

    is_durable : (end : LoadEnd) → StaysUnless s d end so.now store' device'
        → IsDurable s.holds end (d.state device') so.now
    is_durable Done stays = represents_durably store' device' so.now stays
    is_durable UnknownName stays = represents_durably store' device' so.now stays
    is_durable (Malformed fault) stays = represents_durably store' device' so.now stays
    is_durable (Rejected status) stays = represents_durably store' device' so.now stays
    is_durable (Refused fault) stays = tt

    pub line_refused : (end : LoadEnd) → AddsOne s d (Err end) spec number line so.now so.file device store' device'
        → LoadsLines s.holds spec.name.items text before rows end (d.history start) (d.state start) (d.history device')
        (d.state device')
    line_refused end adds = record {
      moments = moments_more adds.moments;
      ends = record {
        now = so.now;
        adds = so.adds;
        file = so.file;
        there = so.has.there;
        why = is_end end adds.why;
        durable = is_durable end adds.stays;
      };
    }

  pub all_loaded :
      (spec : FileSpec) (text rest : List ℕ) (before : Files) (start : D) (rows number : ℕ) (store : S) (device : D)
      → IsFront text rest rows → length rest ≡ 0 → IsSoFar spec text before start rows number store device
      → LoadsLines s.holds spec.name.items text before rows Done (d.history start) (d.state start) (d.history device)
      (d.state device)
  all_loaded spec text rest before start rows number store device front none so = record {
    moments = through_few s.holds spec.name.items (lines_of text) before rows (rows + 1) (d.state start).events
        (d.history start) (d.history device) (d.state device) (omega arith) so.moments;
    ends = record {
      now = so.now;
      adds = so.adds;
      file = so.file;
      there = so.has.there;
      why = no_more text rest rows front none;
      durable = represents_durably store device so.now so.stands;
    };
  }
