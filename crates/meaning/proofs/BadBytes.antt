-- The byte that a refusal names, tried: a finder that meets demand 1 names no other, and wrong ways to count it are shut out.
--     long-line          a text of digits without a line feed is refused by 1 at its length, and at byte 65,535 where it is longer
--     no_fields          the offset counted in fields
--     no-last-field      the last field that names no row
--     no-from-one        bytes counted from 1
--     no-unstopped       no stop at 65,535
-- Assumes nothing.
use mathlib.Core.Bool.{false}
use mathlib.Core.List.{List, [], ◌∷◌, ◌++◌, append_assoc, append-nil}
use mathlib.Core.Path.{◌≡◌, refl, ap, sym, ◌∙◌}
use Prim.Native.Nat.{ℕ, zero, suc, min, ◌<◌}
use native.Mathlib.Omega.{arith}
use lib.Dec.{ltb}
use lib.ListN.{length, replicate, length-replicate}
use Rattle.meaning.specs.Text.{narrow, Line, Refusal, faulty, read, read_lines, lines_of, lines_from, nothing_read, digit, first_failing, nowhere, non_digit, legible, tests_of, first_fault, spot_or, bad_byte, offset_of, furthest}
use Rattle.meaning.specs.Replies.{Replies, refused}
use Rattle.meaning.specs.Sheet.{fault, bytes_named, bytes}
use Rattle.meaning.specs.Demands.{Finder, RefusesRightly}
use Rattle.meaning.proofs.Logic.{and-false}
use Rattle.meaning.proofs.Lines.{fault_in, entry_in, read-stop}
use Rattle.meaning.proofs.Sheet.{bytes-shown}

-- two refusals of one text name one byte
module _ (f : Finder) (d : RefusesRightly f) where
  one_byte : (text : List ℕ) (n p o : ℕ) (r : Refusal) → Replies narrow text (refused (fault n p o)) → f text ≡ refused r → r.offset ≡ o
  one_byte text n p o r w e =
      let g : refused r ≡ refused (fault n p o) = sym e ∙ (d text (fault n p o)).1 w in
      let h : r ≡ fault n p o = cc in
      ap (λ (x : Refusal). x.offset) h

  pub no_fields : f (bytes "01000100\n010101020001\n") ≡ refused (fault 6 2 5) → ⊥
  unfolding bytes_named
  no_fields e = let z : ◌≡◌ {A = ℕ} 5 10 = one_byte _ 6 2 10 (fault 6 2 5) bytes-shown.1.1.1.1.1.1.0 e in omega arith

  pub no-last-field : f (bytes "01000100\n010101020102\n") ≡ refused (fault 6 2 10) → ⊥
  unfolding bytes_named
  no-last-field e = let z : ◌≡◌ {A = ℕ} 10 8 = one_byte _ 6 2 8 (fault 6 2 10) bytes-shown.1.1.1.1.1.1.1.0 e in omega arith

  pub no-from-one : f (bytes "01000100\n0a\n") ≡ refused (fault 1 2 2) → ⊥
  unfolding bytes_named
  no-from-one e = let z : ◌≡◌ {A = ℕ} 2 1 = one_byte _ 1 2 1 (fault 1 2 2) bytes-shown.0 e in omega arith

-- ---- a long line of the digit 0
abbrev zeros : ℕ → List ℕ
zeros n = replicate n 48

abbrev open_line : ℕ → Line
open_line n = record { bytes = zeros n; ended = false }

line-zeros : (m a : ℕ) (l : List ℕ) → lines_from (a ∷ l) (zeros m) ≡ record { bytes = (a ∷ l) ++ zeros m; ended = false } ∷ []
unfolding lines_from
line-zeros zero a l = rw append-nil
line-zeros (suc m) a l = line-zeros m a (l ++ (48 ∷ [])) ∙ rw append_assoc

zeros-lines : (n : ℕ) → lines_of (zeros (suc n)) ≡ open_line (suc n) ∷ []
unfolding lines_of lines_from
zeros-lines n = line-zeros n 48 []

zeros-digits : (i n : ℕ) → first_failing (λ b. ltb (digit b) 16) i (zeros n) ≡ nowhere
unfolding first_failing digit
zeros-digits i zero = refl
zeros-digits i (suc n) = zeros-digits (suc i) n

open-fault : (n : ℕ) → fault_in narrow (open_line n) nothing_read ≡ 1
unfolding fault_in tests_of first_fault legible
open-fault n = rw (and-false (ltb 0 (length (zeros n))), and-false)

open-offset : (n : ℕ) → offset_of 1 (open_line n) (entry_in (open_line n)) nothing_read ≡ min furthest n
unfolding offset_of bad_byte non_digit spot_or
open-offset n = rw (zeros-digits 0 n, length-replicate {A = ℕ} n 48)

pub long-line : (n : ℕ) → 0 < n → read narrow (zeros n) ≡ faulty (fault 1 1 (min furthest n))
unfolding read
long-line zero h = absurd (omega arith)
long-line (suc n) h =
    ap (λ (l : List Line). read_lines narrow 1 nothing_read l) (zeros-lines n)
    ∙ read-stop narrow 1 nothing_read (open_line (suc n)) [] 0 (open-fault (suc n))
    ∙ ap (λ (o : ℕ). faulty (fault 1 1 o)) (open-offset (suc n))

pub no-unstopped : (f : Finder) → RefusesRightly f → (n : ℕ) → furthest < n → f (zeros n) ≡ refused (fault 1 1 n) → ⊥
no-unstopped f d n h e =
    let w : Replies narrow (zeros n) (refused (fault 1 1 (min furthest n))) = rw (long-line n (omega arith)) refl in
    let z : n ≡ min furthest n = one_byte f d (zeros n) 1 1 (min furthest n) (fault 1 1 n) w e in
    omega arith
