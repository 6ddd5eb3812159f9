-- A row that is a variable, and the variable's candidates: what is asked, and what is promised.
--     variable-places, variable-places-back, variable-room    where the words of both stand
--     row_keeps                  the row from the candidates
--     keeps_same                 nothing is changed
--     cut-unknown, cut-steps     the candidates by the row
-- Assumes nothing.
use mathlib.Core.Bool.{Bool, true, false}
use mathlib.Core.List.{List}
use mathlib.Core.Path.{◌≡◌, refl, ap, sym, ◌∙◌}
use mathlib.Core.Logic.{inl, inr}
use Prim.Native.Nat.{ℕ, ◌+◌, ◌*◌, ◌≤◌, ◌<◌}
use native.Mathlib.Omega.{arith}
use borrow.Author.Rules.{rules}
use lib.ListN.{length, get_or}
use Rattle.meaning.specs.Values.{number_at, numbers}
use Rattle.meaning.proofs.Logic.{and_both, false-true}
use Rattle.bits.specs.Sets.{bit_at, has, Places, Met}
use Rattle.bits.proofs.Words.{both-has}
use Rattle.matching.specs.Possible.{Possible}
use Rattle.matching.specs.InWords.{possible_of}
use Rattle.matching.specs.Steps.{upward, upward_by, choosable, choosable_by}
use Rattle.matching.proofs.Numbered.{Numbered}
use Rattle.matching.proofs.Pruning.{told}
use Rattle.matching.proofs.Rounds.{upward-keeping, choosable-keeping}
use Rattle.search_sets.specs.Places.{known_at, possible_in, VariableIn}
use Rattle.search_sets.specs.Keeps.{Setting, Fits, AllowedIn, Keeps, Steps, VariableRow}
use Rattle.search_sets.specs.Words.{Copied, Told, Left}
use Rattle.search_sets.proofs.Changed.{Allowed, sets-apart, changed_then, changed-region, changed-told, has_same, has-drop, put-allows, sift-allows}

pub variable-places : (size count width p v a b : ℕ) → VariableIn size count width p v → a ≡ p * width → b ≡ (count + v) * width → Places size a b width
variable-places size count width p v a b h e f =
    record {
      left = omega (arith, e, h.room.long, sets-apart width p (count + 4) (omega (arith, h.row)));
      right = omega (arith, f, h.room.long, sets-apart width (count + v) (count + 4) (omega (arith, h.variable)));
      apart = inl (omega (arith, e, f, sets-apart width p (count + v) (omega (arith, h.row))));
    }

pub variable-places-back : (size count width p v a b : ℕ) → VariableIn size count width p v → a ≡ p * width → b ≡ (count + v) * width → Places size b a width
variable-places-back size count width p v a b h e f =
    let w : Places size a b width = variable-places size count width p v a b h e f in
    record { left = w.right; right = w.left; apart = inr (omega (arith, e, f, sets-apart width p (count + v) (omega (arith, h.row)))) }

pub variable-room : (size more count width p v b : ℕ) → VariableIn size count width p v → b ≡ (count + v) * width → more ≡ size → b + width ≤ more
variable-room size more count width p v b h e f = omega (arith, e, f, h.room.long, sets-apart width (count + v) (count + 4) (omega (arith, h.variable)))

pub row_keeps : (old mid new : List ℕ) (count width p v a b t : ℕ) → VariableIn (length old) count width p v → a ≡ p * width → b ≡ (count + v) * width → t ≡ (count + 4) * width
    → Copied old mid a b width → Told mid new t p false → Keeps (VariableRow p v) count width old new
unfolding possible_in possible_of upward upward_by
row_keeps old mid new count width p v a b t h ea eb et copied told =
    record { long = told.long ∙ copied.long; keeps = λ s f k x w. record { sought = w.sought; allowed = go s f k x w } }
  where
    copied' : Copied old mid (p * width) ((count + v) * width) width
    copied' = rw (ea, eb) at copied

    told' : Told mid new (known_at count width) p false
    told' = rw et at told

    row : (x : ℕ) → x < width * 64 → has old ((count + v) * width) x ≡ true → has new (p * width) x ≡ true
    row x l e =
        has_same width mid new (p * width) (p * width) (λ j m. told'.others (p * width + j) (omega (arith, sets-apart width p (count + 4) (omega (arith, h.row))))) x l
        ∙ has_same width old mid (p * width) ((count + v) * width) copied'.words x l
        ∙ e

    go : (s : Setting) (f : Fits count width s) → VariableRow p v s → (x : List ℕ) (w : AllowedIn s count width old x) → Allowed s count width f x w.sought (possible_in count width new)
    go s f k x w =
        put-allows s count width f x w.sought p (P.candidates v) false old new h.row
        (changed_then count width old mid new p (changed-region count width old mid p (omega (arith, h.row)) copied'.long copied'.others) (changed-told count width mid new p false told'))
        (λ y l e. row y (omega (arith, f.within)) (sym (has-drop count width old v y) ∙ e))
        (λ e. absurd (let z : ◌≡◌ {A = ℕ} 0 1 = cc in omega arith))
        (let u : Allowed s count width f x w.sought (upward s.rows s.rep s.bound s.rule.patterns p P) =
        (upward-keeping s.differs s.rows s.rep s.bound s.offset s.rule f.table f.placed p (omega (arith, h.row, f.counted))).keeping x w.sought P w.allowed in
        rw k.row at u)
      where
        P : Possible
        P = possible_in count width old

-- ---- candidates

-- a variable of the rule has a candidate
candidates-none : (count width p v : ℕ) (sets : List ℕ) → p < count → ((x : ℕ) → x < width * 64 → has sets ((count + v) * width) x ≡ false)
    → (s : Setting) (f : Fits count width s) → VariableRow p v s → (a : List ℕ) → AllowedIn s count width sets a → ⊥
unfolding possible_in possible_of
candidates-none count width p v sets l none s f k a w =
    let n : Numbered s.rows s.rep s.bound s.offset s.rule.patterns a (numbers s.rows s.rep s.offset s.rule.patterns a) =
    told s.differs s.rows s.rep s.bound s.offset s.rule f.table f.placed a w.sought in
    let g : v < length a = (n.given p v (omega (arith, f.counted)) k.row).0 in
    false-true (sym (has-drop count width sets v (number_at a v)) ∙ w.allowed.variables v g) (none (number_at a v) (omega (arith, n.small v g, f.within)))

pub keeps_same : (Kind : Setting → Type 0) (count width : ℕ) (sets : List ℕ) → Keeps Kind count width sets sets
keeps_same Kind count width sets = record { long = refl; keeps = λ s f k a w. w }

-- the row is not known: nothing is cut
pub cut-unknown : (sets : List ℕ) (count width p v b : ℕ) (r : Bool) → VariableIn (length sets) count width p v → b ≡ (count + v) * width → Left sets b width r
    → Steps (VariableRow p v) count width sets sets r
cut-unknown sets count width p v b r h eb left =
    record {
      kept = keeps_same (VariableRow p v) count width sets;
      none = λ e. record { none = candidates-none count width p v sets h.row (rw eb at (left.none e)) };
    }

cut_keeps : (old new : List ℕ) (count width p v : ℕ) → VariableIn (length old) count width p v → bit_at (get_or old (known_at count width) 0) p ≡ true
    → Met old new ((count + v) * width) (p * width) width → Keeps (VariableRow p v) count width old new
unfolding possible_in possible_of choosable choosable_by
cut_keeps old new count width p v h known met = record { long = met.long; keeps = λ s f k a w. record { sought = w.sought; allowed = go s f k a w } }
  where
    go : (s : Setting) (f : Fits count width s) → VariableRow p v s → (a : List ℕ) (w : AllowedIn s count width old a) → Allowed s count width f a w.sought (possible_in count width new)
    go s f k a w =
        sift-allows s count width f a w.sought v (P.classes p) old new h.variable
        (changed-region count width old new (count + v) (omega (arith, h.variable)) met.long met.others)
        (λ x l e c.
        both-has width old old new ((count + v) * width) (p * width) ((count + v) * width) met.words x (omega (arith, f.within))
        ∙ and_both (has old ((count + v) * width) x) (has old (p * width) x) e (sym (rw known refl) ∙ c))
        (let u : Allowed s count width f a w.sought (choosable s.rows s.rep s.bound s.rule.patterns p P) =
        (choosable-keeping s.differs s.rows s.rep s.bound s.offset s.rule f.table f.placed p (omega (arith, h.row, f.counted))).keeping a w.sought P w.allowed in
        rw k.row at u)
      where
        P : Possible
        P = possible_in count width old

pub cut-steps : (old new : List ℕ) (count width p v a b t : ℕ) (known r : Bool) → VariableIn (length old) count width p v → a ≡ p * width → b ≡ (count + v) * width → t ≡ (count + 4) * width
    → known ≡ true → known ≡ bit_at (get_or old t 0) p → Met old new b a width → Left new b width r → Steps (VariableRow p v) count width old new r
cut-steps old new count width p v a b t known r h ea eb et on ek met left =
    record { kept = keeps; none = λ e. record { none = λ s f k x w. candidates-none count width p v new h.row (rw eb at (left.none e)) s f k x (keeps.keeps s f k x w) } }
  where
    keeps : Keeps (VariableRow p v) count width old new
    keeps = cut_keeps old new count width p v h (ap (λ (i : ℕ). bit_at (get_or old i 0) p) (sym et) ∙ sym ek ∙ on) (rw (ea, eb) at met)

pub ruleset mine = (rules, variable-places, variable-places-back, variable-room, row_keeps, cut-unknown, cut-steps)
