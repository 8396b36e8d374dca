use Rattle.std.proofs.Common.{◌≡◌, ◌∙◌, true, false, ℕ, List, drop, sym, ap}
use Rattle.pages.specs.Layout.{version_of}
use Rattle.records.specs.Rows.{same_bytes}
use Rattle.records.proofs.Maps.{bytes_same, same_itself}
use Rattle.file_recovery.proofs.FirstMark.{never_first, first_counted, second_counted, count_dropped, rest_is}
use Rattle.file_recovery.proofs.checked_file.is_counted.Goals as goal

pub returns-in-First-clause-yes : goal.returns-in-First-clause-yes
returns-in-First-clause-yes c = λ is.
    first_counted (version_of c.args.mark) c.args.value.now c.args.rows (ap version_of c.in-First.is) c.requires

pub returns-in-Second-clause-yes : goal.returns-in-Second-clause-yes
returns-in-Second-clause-yes c = λ is.
    let spelled : List ℕ = c.to_be_bytes-spelled.result in
    let tail : drop 83 c.args.value.now ≡ spelled =
    sym (rest_is 83 c.args.value.now) ∙ bytes_same _ spelled (sym c.is_same.ensures ∙ is) in
    second_counted (version_of c.args.mark) c.args.value.now c.args.rows (never_first c.in-Second.is)
    (tail ∙ c.to_be_bytes-spelled.ensures)

pub returns-in-Second-clause-no : goal.returns-in-Second-clause-no
returns-in-Second-clause-no c = λ is counted.
    let spelled : List ℕ = c.to_be_bytes-spelled.result in
    let tail = rest_is 83 c.args.value.now
    ∙ count_dropped (version_of c.args.mark) c.args.value.now c.args.rows (never_first c.in-Second.is) c.requires
    counted
    ∙ sym c.to_be_bytes-spelled.ensures in
    let clash : true ≡ false =
    sym (ap (λ (l : List ℕ). same_bytes l spelled) tail ∙ same_itself spelled) ∙ sym c.is_same.ensures ∙ is in
    absurd {0} cc
