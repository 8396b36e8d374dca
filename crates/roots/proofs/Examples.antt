-- Small cases of the definitions. Marks and payloads are short here.
use Rattle.std.proofs.Common.{◌≡◌, ℕ, List, [], ◌∷◌, ◌++◌, refl}
use Rattle.std.specs.Prelude.{Some, None, Ok, Err, replicate}
use Rattle.station.specs.Disk.{Sector}
use Rattle.roots.specs.declared.root.Mark.{Mark}
use Rattle.roots.specs.declared.root.Root.{Root}
use Rattle.roots.specs.declared.root.RootSector.TheVariants.{Blank, Broken, Valid}
use Rattle.roots.specs.declared.pair.RootsFault.TheVariants.{Damaged, ForeignMark}
use Rattle.roots.specs.Root.{Family, mark_in, root_in, root_bytes}
use Rattle.roots.specs.Pair.{newest_root}
use Rattle.roots.specs.Reading.{roots_in}

-- two marks of one format, and two of another
abbrev first : List ℕ
first = 1 ∷ 1 ∷ 1 ∷ 1 ∷ 1 ∷ 1 ∷ 1 ∷ 1 ∷ []

abbrev later : List ℕ
later = 2 ∷ 2 ∷ 2 ∷ 2 ∷ 2 ∷ 2 ∷ 2 ∷ 2 ∷ []

abbrev foreign : List ℕ
foreign = 3 ∷ 3 ∷ 3 ∷ 3 ∷ 3 ∷ 3 ∷ 3 ∷ 3 ∷ []

abbrev foreign_later : List ℕ
foreign_later = 4 ∷ 4 ∷ 4 ∷ 4 ∷ 4 ∷ 4 ∷ 4 ∷ 4 ∷ []

abbrev known : List Family
known = (first ∷ later ∷ []) ∷ (foreign ∷ foreign_later ∷ []) ∷ []

-- the marks, by their places
abbrev mark : ℕ → ℕ → Mark
mark family version = record { family = family; version = version }

abbrev root : Mark → ℕ → ℕ → Root
root m generation sectors = record { mark = m; generation = generation; sectors = sectors; payload = 9 ∷ [] }

-- sector 0 with generation 4, by its bytes
abbrev four : Sector
four = first ++ (0 ∷ 0 ∷ 0 ∷ 0 ∷ 0 ∷ 0 ∷ 0 ∷ 4 ∷ []) ++ (0 ∷ 0 ∷ 4 ∷ 0 ∷ []) ++ 9 ∷ []

bytes_of_a_root : root_bytes first (root (mark 0 0) 4 1024) ≡ four
bytes_of_a_root = refl

the_first_mark_of_the_first_family : mark_in known four ≡ Some (mark 0 0)
the_first_mark_of_the_first_family = refl

a_later_mark_of_the_first_family : mark_in known (later ++ 9 ∷ []) ≡ Some (mark 0 1)
a_later_mark_of_the_first_family = refl

a_later_mark_of_another_family : mark_in known (foreign_later ++ 9 ∷ []) ≡ Some (mark 1 1)
a_later_mark_of_another_family = refl

half_a_mark : mark_in known (1 ∷ 1 ∷ 1 ∷ 1 ∷ []) ≡ None
half_a_mark = refl

a_root_is_read : root_in known 1024 0 four ≡ Valid (root (mark 0 0) 4 1024)
a_root_is_read = refl

zeros_are_blank : root_in known 1024 0 (replicate 21 0) ≡ Blank
zeros_are_blank = refl

a_wrong_parity_breaks_it : root_in known 1024 1 four ≡ Broken
a_wrong_parity_breaks_it = refl

more_sectors_than_the_device_has : root_in known 1023 0 four ≡ Broken
more_sectors_than_the_device_has = refl

fewer_sectors_than_any_volume : root_in known 2000 0 (root_bytes first (root (mark 0 0) 4 1023)) ≡ Broken
fewer_sectors_than_any_volume = refl

more_sectors_than_any_volume : root_in known 1000000 0 (root_bytes first (root (mark 0 0) 4 921601)) ≡ Broken
more_sectors_than_any_volume = refl

a_generation_of_63_bits : root_in known 1024 0 (root_bytes first (root (mark 0 0) 9223372036854775808 1024)) ≡ Broken
a_generation_of_63_bits = refl

an_unknown_mark : root_in ((later ∷ []) ∷ (foreign ∷ []) ∷ []) 1024 0 four ≡ Broken
an_unknown_mark = refl

the_newer_is_taken : newest_root (Valid (root (mark 0 0) 4 1024)) (Valid (root (mark 0 0) 3 1024))
    ≡ Ok (record { newest = root (mark 0 0) 4 1024; older = Some (root (mark 0 0) 3 1024) })
the_newer_is_taken = refl

the_newer_is_taken_in_the_second_sector_too :
    newest_root (Valid (root (mark 0 0) 4 1024)) (Valid (root (mark 0 0) 5 1024))
    ≡ Ok (record { newest = root (mark 0 0) 5 1024; older = Some (root (mark 0 0) 4 1024) })
the_newer_is_taken_in_the_second_sector_too = refl

one_root_beside_zeros : newest_root (Valid (root (mark 0 0) 0 1024)) Blank
    ≡ Ok (record { newest = root (mark 0 0) 0 1024; older = None })
one_root_beside_zeros = refl

two_blank_sectors : newest_root Blank Blank ≡ Err Damaged
two_blank_sectors = refl

a_broken_one_beside_a_valid_one : newest_root (Valid (root (mark 0 0) 4 1024)) Broken ≡ Err Damaged
a_broken_one_beside_a_valid_one = refl

generations_apart : newest_root (Valid (root (mark 0 0) 4 1024)) (Valid (root (mark 0 0) 7 1024)) ≡ Err Damaged
generations_apart = refl

unequal_numbers_of_sectors : newest_root (Valid (root (mark 0 0) 4 1024)) (Valid (root (mark 0 0) 5 1025)) ≡ Err Damaged
unequal_numbers_of_sectors = refl

a_later_mark_after_an_earlier : newest_root (Valid (root (mark 0 0) 4 1024)) (Valid (root (mark 0 1) 5 1024))
    ≡ Ok (record { newest = root (mark 0 1) 5 1024; older = Some (root (mark 0 0) 4 1024) })
a_later_mark_after_an_earlier = refl

an_earlier_mark_after_a_later : newest_root (Valid (root (mark 0 1) 4 1024)) (Valid (root (mark 0 0) 5 1024))
    ≡ Err Damaged
an_earlier_mark_after_a_later = refl

another_format : newest_root (Valid (root (mark 1 0) 4 1024)) (Valid (root (mark 1 0) 5 1024)) ≡ Err ForeignMark
another_format = refl

a_later_mark_of_another_format : newest_root (Valid (root (mark 1 0) 4 1024)) (Valid (root (mark 1 1) 5 1024))
    ≡ Err ForeignMark
a_later_mark_of_another_format = refl

an_earlier_mark_of_another_format : newest_root (Valid (root (mark 1 1) 4 1024)) (Valid (root (mark 1 0) 5 1024))
    ≡ Err Damaged
an_earlier_mark_of_another_format = refl

its_own_after_another_format : newest_root (Valid (root (mark 1 0) 4 1024)) (Valid (root (mark 0 1) 5 1024))
    ≡ Err Damaged
its_own_after_another_format = refl

another_format_after_its_own : newest_root (Valid (root (mark 0 1) 4 1024)) (Valid (root (mark 1 0) 5 1024))
    ≡ Err Damaged
another_format_after_its_own = refl

no_sectors : roots_in known [] ≡ Err Damaged
no_sectors = refl
