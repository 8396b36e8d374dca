-- Bytes over and over.
use Rattle.std.proofs.Common.{◌≡◌, ℕ, zero, suc, ◌+◌, ◌-◌, ◌*◌, ◌≤◌, List, ◌++◌, length, take, drop, sym, ap, ◌∙◌}
use Rattle.std.proofs.Common.{length-append, length-drop, arith}
use Rattle.std.specs.Prelude.{slice_range}
use Rattle.std.specs.List.{repeat}
use Rattle.std.proofs.lemmas.List.{append_assoc, append-nil, take-append-drop, drop-append-le}
use Rattle.std.proofs.Math.Seq.{take-append_seam, drop-append_seam}

pub length-repeat : (n : ℕ) (xs : List ℕ) → length (repeat n xs) ≡ n * length xs
length-repeat zero xs = omega arith
length-repeat (suc n) xs = omega (arith, length-append xs (repeat n xs), length-repeat n xs)

pub other_end : {A : Type 0} (n : ℕ) (xs : List A) → xs ++ repeat n xs ≡ repeat n xs ++ xs
other_end zero xs = append-nil xs
other_end (suc n) xs = ap (λ t. xs ++ t) (other_end n xs) ∙ sym (append_assoc xs (repeat n xs) xs)

-- one more after those that are there
pub once_more : {A : Type 0} (n : ℕ) (xs old now new : List A) → now ≡ old ++ repeat n xs → new ≡ now ++ xs
    → new ≡ old ++ repeat (n + 1) xs
once_more {A} n xs old now new before added =
    let next : suc n ≡ n + 1 = omega arith in
    added ∙ ap (λ l. l ++ xs) before ∙ append_assoc old (repeat n xs) xs ∙ ap (λ l. old ++ l) (sym (other_end n xs))
    ∙ ap (λ k. old ++ repeat k xs) next

-- what stood from a place to the end, whatever is after it
part_of : {A : Type 0} (begin end : ℕ) (first behind : List A) → begin ≤ length first → end ≡ length first
    → slice_range (first ++ behind) begin end ≡ drop begin first
part_of begin end first behind h e =
    let all : length (drop begin first) ≡ end - begin = omega (arith, length-drop begin first) in
    ap (take (end - begin)) (drop-append-le begin first behind h)
    ∙ ap (λ n. take n (drop begin first ++ behind)) (sym all)
    ∙ take-append_seam (drop begin first) behind

-- one turn
pub turn : {A : Type 0} (n begin end : ℕ) (first now new : List A) → 1 ≤ n → begin ≤ length first → end ≡ length first
    → now ≡ first ++ repeat (n - 1) (drop begin first)
    → new ≡ now ++ slice_range now begin end → new ≡ first ++ repeat (n + 1 - 1) (drop begin first)
turn {A} n begin end first now new some h e before added =
    let xs : List A = drop begin first in
    let once : n + 1 - 1 ≡ suc (n - 1) = omega arith in
    added ∙ ap (λ l. l ++ slice_range l begin end) before
    ∙ ap (λ l. (first ++ repeat (n - 1) xs) ++ l) (part_of begin end first (repeat (n - 1) xs) h e)
    ∙ append_assoc first (repeat (n - 1) xs) xs
    ∙ ap (λ l. first ++ l) (sym (other_end (n - 1) xs))
    ∙ ap (λ k. first ++ repeat k xs) (sym once)

pub all_turns : {A : Type 0} (n times begin : ℕ) (first now : List A) → 1 ≤ times → n ≡ times
    → now ≡ first ++ repeat (n - 1) (drop begin first)
    → now ≡ take begin first ++ repeat times (drop begin first)
all_turns {A} n times begin first now some e before =
    let xs : List A = drop begin first in
    let once : suc (times - 1) ≡ times = omega arith in
    before ∙ ap (λ k. first ++ repeat (k - 1) xs) e
    ∙ ap (λ l. l ++ repeat (times - 1) xs) (sym (take-append-drop begin first))
    ∙ append_assoc (take begin first) xs (repeat (times - 1) xs)
    ∙ ap (λ k. take begin first ++ repeat k xs) once

-- All occurrences of bytes after others.
pub repeated_behind : {A : Type 0} (begin times : ℕ) (old own now new : List A) → begin ≡ length old → now ≡ old ++ own
    → new ≡ take begin now ++ repeat times (drop begin now)
    → new ≡ old ++ repeat times own
repeated_behind begin times old own now new e put repeated =
    repeated ∙ ap (λ l. take begin l ++ repeat times (drop begin l)) put
    ∙ ap (λ n. take n (old ++ own) ++ repeat times (drop n (old ++ own))) e
    ∙ ap (λ l. l ++ repeat times (drop (length old) (old ++ own))) (take-append_seam old own)
    ∙ ap (λ l. old ++ repeat times l) (drop-append_seam old own)

-- and how many bytes those are
pub repeated_length : (times most size : ℕ) (old own now new : List ℕ) → times ≡ most → length now ≡ length old + size
    → now ≡ old ++ own → new ≡ old ++ repeat times own
    → length new ≡ length old + most * size
repeated_length times most size old own now new count room put repeated =
    let one : length own ≡ size = omega (arith, ap length put, length-append old own, room) in
    let every : length (repeat times own) ≡ most * size =
    length-repeat times own ∙ ap (λ n. n * length own) count ∙ ap (λ n. most * n) one in
    omega (arith, ap length repeated, length-append old (repeat times own), every)
