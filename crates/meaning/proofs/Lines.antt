-- Lines: how a text splits into lines, what a written frame reads as, and what reading one line more does.
--     Each                       a fact of every element of a list; one element more, another fact, two facts at once
--     nowhere-each, each-nowhere no number of a list fails a test exactly when each passes it
--     Whole, lines-append        a text whose lines are all ended; its lines come before those of what follows it
--     frame-line, frame-legible  a written frame is one line, and its digits are legible
--     fields-hex                 the fields of that line are the bytes written
--     entry_in, fault_in           what a line adds; the number that it is refused by, or 0
--     Passes, passes, passed     the seven tests of a line that has no fault
--     read_step, read-stop       reading goes past a line without a fault, and stops at a faulty one
--     read_first                 a reading that is taken takes its first line
--     lines_keep, read_keeps     what each line that passes keeps, reading keeps
--     taken-whole                a text that is taken is whole
-- Assumes nothing.
use mathlib.Core.Bool.{Bool, true, false, ◌&&◌}
use mathlib.Core.List.{List, [], ◌∷◌, ◌++◌, append_assoc, append-nil}
use mathlib.Core.Path.{◌≡◌, refl, ap, ap₂, sym, ◌∙◌, subst}
use Prim.Native.Nat.{ℕ, zero, suc, ◌+◌, ◌-◌, ◌*◌, ◌/◌, ◌%◌, ◌≤◌, ◌<◌}
use native.Mathlib.Nat.{div-add-mod', div-lt_iff_lt-mul, mod-lt, mul-mod_left}
use native.Mathlib.Omega.{arith}
use lib.Dec.{eqb, ltb}
use borrow.Author.Tests.{eqb-true, eqb-false, eq-eqb, ne_eqb, ltb-true, ltb-false, lt-ltb, le-leb, lt-leb}
use lib.ListN.{length}
use Rattle.meaning.specs.Rules.{Below}
use Rattle.meaning.specs.Text.{Line, linefeed, lines_from, lines_of, digit, fields, field_at, Kind, kinds, listed_as, entry_of, Entry, Read, put, Limits, first_failing, is_nowhere, non_digit, legible, known, sized, ranked, room, refers, agrees, tests_of, first_fault, offset_of, faulty, taken, read_lines, read, nothing_read}
use Rattle.meaning.specs.Writing.{digit_of, hex, frame}
use Rattle.meaning.proofs.Logic.{and-true-right, false-true}

abbrev pub Each : {A : Type 0} → (A → Type 0) → List A → Type 0
Each P [] = Unit {0}
Each P (a ∷ l) = P a × Each P l

pub each_snoc : {A : Type 0} (P : A → Type 0) (l : List A) (a : A) → Each P l → P a → Each P (l ++ (a ∷ []))
each_snoc P [] a h p = (p, tt)
each_snoc P (b ∷ l) a h p = (h.0, each_snoc P l a h.1 p)

pub each_both : {A : Type 0} (P Q R : A → Type 0) (l : List A) → ((a : A) → P a → Q a → R a) → Each P l → Each Q l → Each R l
each_both P Q R [] f h k = tt
each_both P Q R (a ∷ l) f h k = (f a h.0 k.0, each_both P Q R l f h.1 k.1)

pub each_map : {A : Type 0} (P Q : A → Type 0) (l : List A) → ((a : A) → P a → Q a) → Each P l → Each Q l
each_map P Q [] f h = tt
each_map P Q (a ∷ l) f h = (f a h.0, each_map P Q l f h.1)

pub nowhere-each : (test : ℕ → Bool) (i : ℕ) (l : List ℕ) → is_nowhere (first_failing test i l) ≡ true → Each (λ a. test a ≡ true) l
unfolding first_failing is_nowhere
nowhere-each test i [] e = tt
nowhere-each test i (a ∷ l) e = go (test a) refl (nowhere-each test (suc i) l)
  where
    go : (z : Bool) → test a ≡ z → (is_nowhere (first_failing test (suc i) l) ≡ true → Each (λ a. test a ≡ true) l) → Each (λ a. test a ≡ true) (a ∷ l)
    go true q f = (q, f (rw (q, first_failing) at e))
    go false q f = false-true (rw (q, first_failing) at e) refl

pub each-nowhere : (test : ℕ → Bool) (i : ℕ) (l : List ℕ) → Each (λ a. test a ≡ true) l → is_nowhere (first_failing test i l) ≡ true
unfolding first_failing is_nowhere
each-nowhere test i [] h = refl
each-nowhere test i (a ∷ l) h = rw (h.0, first_failing) (each-nowhere test (suc i) l h.1)

abbrev pub Ended : Line → Type 0
Ended line = line.ended ≡ true

abbrev pub whole : List ℕ → Line
whole l = record { bytes = l; ended = true }

-- one byte more
line-ends : (l t : List ℕ) (b : ℕ) → b ≡ linefeed → lines_from l (b ∷ t) ≡ whole l ∷ lines_from [] t
unfolding lines_from
line-ends [] t b e = rw (eq-eqb b 10 e, lines_from)
line-ends (a ∷ l) t b e = rw (eq-eqb b 10 e, lines_from)

line-goes : (l t : List ℕ) (b : ℕ) → (b ≡ linefeed → ⊥) → lines_from l (b ∷ t) ≡ lines_from (l ++ (b ∷ [])) t
unfolding lines_from
line-goes [] t b e = rw (ne_eqb b 10 e, lines_from)
line-goes (a ∷ l) t b e = rw (ne_eqb b 10 e, lines_from)

pub record Whole (text : List ℕ) : Type 0 where
  pub ends : Each Ended (lines_of text)

from-append : (l s w : List ℕ) → Each Ended (lines_from l s) → lines_from l (s ++ w) ≡ lines_from l s ++ lines_of w
unfolding lines_from lines_of
from-append [] [] w h = refl
from-append (a ∷ l) [] w h = cc
from-append l (b ∷ s) w h = go (eqb b 10) refl (from-append [] s w) (from-append (l ++ (b ∷ [])) s w)
  where
    go : (z : Bool) → eqb b 10 ≡ z → (Each Ended (lines_from [] s) → lines_from [] (s ++ w) ≡ lines_from [] s ++ lines_of w)
        → (Each Ended (lines_from (l ++ (b ∷ [])) s) → lines_from (l ++ (b ∷ [])) (s ++ w) ≡ lines_from (l ++ (b ∷ [])) s ++ lines_of w)
        → lines_from l (b ∷ (s ++ w)) ≡ lines_from l (b ∷ s) ++ lines_of w
    go true e f g =
        let q : _ = line-ends l s b (eqb-true b 10 e) in
        rw (line-ends l (s ++ w) b (eqb-true b 10 e), q) (ap (λ (x : List Line). whole l ∷ x) (f (subst (λ (x : List Line). Each Ended x) q h).1))
    go false e f g =
        let q : _ = line-goes l s b (eqb-false b 10 e) in
        rw (line-goes l (s ++ w) b (eqb-false b 10 e), q) (g (subst (λ (x : List Line). Each Ended x) q h))

pub lines-append : (s w : List ℕ) → Whole s → lines_of (s ++ w) ≡ lines_of s ++ lines_of w
unfolding lines_of
lines-append s w h = from-append [] s w h.ends

-- ---- a written frame
digit-high : (v : ℕ) → 48 ≤ digit_of v
unfolding digit_of
digit-high v = go (ltb v 10) refl
  where
    go : (z : Bool) → ltb v 10 ≡ z → 48 ≤ digit_of v
    go true e = rw (e, digit_of) (omega arith)
    go false e = rw (e, digit_of) (omega arith)

digit-decimal : (b : ℕ) → 48 ≤ b → b ≤ 57 → digit b ≡ b - 48
unfolding digit
digit-decimal b h l = rw (le-leb 48 b, le-leb b 57, digit)

digit-letter : (b : ℕ) → 65 ≤ b → b ≤ 70 → digit b ≡ b - 55
unfolding digit
digit-letter b h l = rw (lt-leb b 57 (omega arith), le-leb 48 b (omega arith), digit, le-leb 65 b, le-leb b 70)

pub digit_value : (v : ℕ) → v < 16 → digit (digit_of v) ≡ v
unfolding digit_of
digit_value v h = go (ltb v 10) refl
  where
    go : (z : Bool) → ltb v 10 ≡ z → digit (digit_of v) ≡ v
    go true e = let l : v < 10 = ltb-true v 10 e in rw (e, digit_of, digit-decimal (48 + v) (omega arith) (omega arith)) (omega arith)
    go false e = let l : 10 ≤ v = ltb-false v 10 e in rw (e, digit_of, digit-letter (55 + v) (omega arith) (omega arith)) (omega arith)

byte_high : (b : ℕ) → b < 256 → b / 16 < 16
byte_high b h = (div-lt_iff_lt-mul {k = 16} {x = b} {y = 16} (omega arith)).1 h

pub fields-hex : (l : List ℕ) → Below 256 l → fields (hex l) ≡ l
unfolding fields hex
fields-hex [] h = refl
fields-hex (b ∷ l) h =
    ap₂ ◌∷◌ (rw (digit_value (b / 16) (byte_high b h.0), digit_value (b % 16) (mod-lt b (omega arith))) (div-add-mod' b 16)) (fields-hex l h.1)

pub length-hex : (l : List ℕ) → length (hex l) ≡ length l * 2
unfolding hex
length-hex [] = refl
length-hex (b ∷ l) = omega (arith, length-hex l)

-- what leads to the first line feed
line-all : (l bytes w : List ℕ) → Each (λ b. b ≡ linefeed → ⊥) bytes → lines_from l (bytes ++ (linefeed ∷ w)) ≡ whole (l ++ bytes) ∷ lines_from [] w
line-all l [] w h = rw append-nil (line-ends l w linefeed refl)
line-all l (b ∷ bytes) w h =
    line-goes l (bytes ++ (linefeed ∷ w)) b h.0 ∙ line-all (l ++ (b ∷ [])) bytes w h.1 ∙ rw append_assoc refl

hex-feed : (l : List ℕ) → Each (λ b. b ≡ linefeed → ⊥) (hex l)
unfolding hex
hex-feed [] = tt
hex-feed (b ∷ l) = (λ e. omega (arith, digit-high (b / 16)), (λ e. omega (arith, digit-high (b % 16)), hex-feed l))

pub frame-line : (l w : List ℕ) → lines_of (frame l ++ w) ≡ whole (hex l) ∷ lines_of w
unfolding frame lines_of
frame-line l w = rw append_assoc (line-all [] (hex l) w (hex-feed l))

value-digit : (v : ℕ) → v < 16 → ltb (digit (digit_of v)) 16 ≡ true
value-digit v h = lt-ltb (digit (digit_of v)) 16 (omega (arith, digit_value v h))

hex-digits : (l : List ℕ) → Below 256 l → Each (λ b. ltb (digit b) 16 ≡ true) (hex l)
unfolding hex
hex-digits [] h = tt
hex-digits (b ∷ l) h = (value-digit (b / 16) (byte_high b h.0), (value-digit (b % 16) (mod-lt b (omega arith)), hex-digits l h.1))

pub frame-legible : (b : ℕ) (l : List ℕ) → Below 256 (b ∷ l) → legible (whole (hex (b ∷ l))) ≡ true
unfolding legible non_digit
frame-legible b l h =
    let n : 0 < length (hex (b ∷ l)) = omega (arith, length-hex (b ∷ l)) in
    let d : _ = each-nowhere (λ c. ltb (digit c) 16) 0 (hex (b ∷ l)) (hex-digits (b ∷ l) h) in
    rw (d, lt-ltb 0 (length (hex (b ∷ l))) n, length-hex (b ∷ l), mul-mod_left (suc (length l)) 2)

-- ---- one line more
abbrev pub kind_in : Line → Kind
kind_in line = listed_as (field_at (fields line.bytes) 0) kinds

abbrev pub entry_in : Line → Entry
entry_in line = entry_of (kind_in line) (fields line.bytes)

unfoldable pub fault_in : Limits → Line → Read → ℕ
fault_in L line s = first_fault 1 (tests_of L line (fields line.bytes) (kind_in line) (entry_in line) s)

pub record Passes (L : Limits) (line : Line) (s : Read) : Type 0 where
  pub legibly : legible line ≡ true
  pub listed : known (fields line.bytes) ≡ true
  pub long : sized (kind_in line) (fields line.bytes) ≡ true
  pub rising : ranked (entry_in line) s ≡ true
  pub roomy : room L (entry_in line) s ≡ true
  pub referring : refers (entry_in line) s ≡ true
  pub agreeing : agrees (entry_in line) s ≡ true

-- no fault: each test passes
fault-step : (n : ℕ) (b : Bool) (l : List Bool) → first_fault (suc n) (b ∷ l) ≡ 0 → (b ≡ true) × (first_fault (suc (suc n)) l ≡ 0)
unfolding first_fault
fault-step n true l e = (refl, e)
fault-step n false l e = absurd (omega arith)

pub passed : (L : Limits) (line : Line) (s : Read) → fault_in L line s ≡ 0 → Passes L line s
unfolding fault_in tests_of
passed L line s z =
    let z1 : _ = fault-step 0 _ _ z in
    let z2 : _ = fault-step 1 _ _ z1.1 in
    let z3 : _ = fault-step 2 _ _ z2.1 in
    let z4 : _ = fault-step 3 _ _ z3.1 in
    let z5 : _ = fault-step 4 _ _ z4.1 in
    let z6 : _ = fault-step 5 _ _ z5.1 in
    let z7 : _ = fault-step 6 _ _ z6.1 in
    record { legibly = z1.0; listed = z2.0; long = z3.0; rising = z4.0; roomy = z5.0; referring = z6.0; agreeing = z7.0 }

pub passes : (L : Limits) (line : Line) (s : Read) → Passes L line s → fault_in L line s ≡ 0
unfolding fault_in tests_of first_fault
passes L line s p = rw (p.legibly, p.listed, p.long, p.rising, p.roomy, p.referring, p.agreeing)

module _ (L : Limits) (n : ℕ) (s : Read) (line : Line) (lines : List Line) where
  pub read_step : fault_in L line s ≡ 0 → read_lines L n s (line ∷ lines) ≡ read_lines L (suc n) (put (entry_in line) s) lines
  unfolding fault_in read_lines
  read_step e = rw (e, read_lines)

  pub read-stop : (f : ℕ) → fault_in L line s ≡ suc f
      → read_lines L n s (line ∷ lines) ≡ faulty (record { number = suc f; place = n; offset = offset_of (suc f) line (entry_in line) s })
  unfolding fault_in read_lines
  read-stop f e = rw (e, read_lines)

  pub read_first : (t : Read) → read_lines L n s (line ∷ lines) ≡ taken t
      → Passes L line s × (read_lines L (suc n) (put (entry_in line) s) lines ≡ taken t)
  read_first t e = go (fault_in L line s) refl
    where
      go : (f : ℕ) → fault_in L line s ≡ f → Passes L line s × (read_lines L (suc n) (put (entry_in line) s) lines ≡ taken t)
      go zero z = (passed L line s z, sym (read_step z) ∙ e)
      go (suc f) z = let q : _ = read-stop f z in absurd (let z : ◌≡◌ {A = ℕ} 0 1 = cc in omega arith)

pub lines_keep : (L : Limits) (P : Read → Type 0) → ((line : Line) (s : Read) → Passes L line s → P s → P (put (entry_in line) s))
    → (n : ℕ) (s t : Read) (lines : List Line) → read_lines L n s lines ≡ taken t → P s → P t
unfolding read_lines
lines_keep L P step n s t [] e h = let q : s ≡ t = cc in subst P q h
lines_keep L P step n s t (line ∷ lines) e h =
    let r : _ = read_first L n s line lines t e in
    lines_keep L P step (suc n) (put (entry_in line) s) t lines r.1 (step line s r.0 h)

pub read_keeps : (L : Limits) (P : Read → Type 0) → ((line : Line) (s : Read) → Passes L line s → P s → P (put (entry_in line) s))
    → (text : List ℕ) (t : Read) → read L text ≡ taken t → P nothing_read → P t
unfolding read
read_keeps L P step text t e h = lines_keep L P step 1 nothing_read t (lines_of text) e h

-- ---- a text that is taken is whole
legible-ended : (line : Line) → legible line ≡ true → Ended line
unfolding legible
legible-ended line e = and-true-right (ltb 0 (length line.bytes)) line.ended (and-true-right (is_nowhere (non_digit line.bytes) && eqb (length line.bytes % 2) 0) _ e)

lines-ended : (L : Limits) (n : ℕ) (s t : Read) (lines : List Line) → read_lines L n s lines ≡ taken t → Each Ended lines
lines-ended L n s t [] e = tt
lines-ended L n s t (line ∷ lines) e =
    let r : _ = read_first L n s line lines t e in
    (legible-ended line r.0.legibly, lines-ended L (suc n) (put (entry_in line) s) t lines r.1)

pub taken-whole : (L : Limits) (text : List ℕ) (t : Read) → read L text ≡ taken t → Whole text
unfolding read
taken-whole L text t e = record { ends = lines-ended L 1 nothing_read t (lines_of text) e }
