-- Two rows asked for: what the sets settle, and what following the equation says.
--     read_set, read-room                  one set read
--     open-same .. open-right              whether the equation has to be followed
--     settled-apart .. settled-tried       the answer for two classes
--     classes-two, rows-classes            what following an equation asks, and what two classes ask
--     asked-left, asked-right, asked-so    and for any two numbers
-- Assumes nothing.
use mathlib.Core.Bool.{Bool, true, false}
use mathlib.Core.List.{List}
use mathlib.Core.Path.{◌≡◌, refl, ap, ap₂, sym, ◌∙◌, subst}
use mathlib.Core.Logic.{◌⊎◌, inl, inr}
use Prim.Native.Nat.{ℕ, ◌+◌, ◌*◌, ◌/◌, ◌≤◌, ◌<◌}
use native.Mathlib.Omega.{arith}
use borrow.Author.Rules.{rules}
use lib.ListN.{length}
use Rattle.meaning.specs.Context.{differences}
use Rattle.meaning.specs.Equality.{rep_at}
use Rattle.meaning.specs.ByTable.{apart_by}
use Rattle.meaning.specs.Following.{differ_by}
use Rattle.meaning.proofs.Logic.{false-true}
use Rattle.meaning.proofs.Promised.{representatives-closed}
use Rattle.meaning.proofs.FollowingNumbers.{differ_by-outside, differ_by-rep, differ_by-stated}
use Rattle.bits.specs.Sets.{has}
use Rattle.runs.specs.Runs.{row_count, rows_of, context_of}
use Rattle.runs.proofs.Saying.{length-rows}
use Rattle.search_pairs.specs.Ready.{words_for, most_words, beside_at, apart_at, live_at, Ready}
use Rattle.search_pairs.specs.Steps.{sets_size, Laid, Inside, Blank, Classes, TwoClasses, Open, Settled, Asked, Followed}
use Rattle.search_pairs.proofs.Beside.{same-differ, beside-differ}
use Rattle.search_pairs.proofs.Live.{live-differ}
use Rattle.search_pairs.proofs.Joining.{set-inside}

-- ---- a member of a set

pub read_set : (n s k base : ℕ) (sets : List ℕ) (r : Bool) → (base ≡ s * words_for n) × (base ≤ 65536) → r ≡ has sets base k → r ≡ has sets (s * words_for n) k
read_set n s k base sets r e q = q ∙ ap (λ (v : ℕ). has sets v k) e.0

pub read-room : (n s k base len : ℕ) → (base ≡ s * words_for n) × (base ≤ 65536) → s ≤ n + n + n → sets_size n ≤ len → k < n → base + k / 64 < len
read-room n s k base len e h l i = set-inside n s len base k h l e.0 i

-- ---- whether the equation has to be followed

module _ (n : ℕ) (sets : List ℕ) (x y : ℕ) where
  pub open-same : x ≡ y → Open n sets x y false
  open-same e = record { shut = λ _. inl e; other = λ z. false-true z refl }

  pub open-apart : (b : Bool) → b ≡ beside_at n sets x y → b ≡ false → Open n sets x y b
  open-apart b e q = record { shut = λ _. inr (inl (sym e ∙ q)); other = λ z. false-true z q }

  pub open-left : (b : Bool) → (x ≡ y → ⊥) → b ≡ true → Open n sets x y b
  open-left b d e = record { shut = λ z. false-true e z; other = λ _. d }

  pub open-right : (x ≡ y → ⊥) → (b r : Bool) → b ≡ live_at n sets x → b ≡ false → r ≡ live_at n sets y → Open n sets x y r
  open-right d b r e f q = record { shut = λ z. inr (inr (sym e ∙ f, sym q ∙ z)); other = λ _. d }

-- ---- two classes

module _ (rows table sets : List ℕ) (x y : ℕ) (labels work : List ℕ) (w : Classes rows table sets labels work x y) where
  blank : Blank (row_count rows) labels work
  blank = w.blank

  h : (x < row_count rows) × (y < row_count rows)
  h = (w.left, w.right)

  inner : {a : ℕ} → a < row_count rows → a < length (rows_of rows)
  inner l = omega (arith, length-rows rows)

  both : (said : List ℕ) → rep_at table x ≡ x → rep_at table y ≡ y
      → apart_by (rep_at table) (differences (context_of rows said)) (rep_at table x) (rep_at table y) ≡ apart_by (rep_at table) (differences (context_of rows said)) x y
  both said ex ey = ap₂ (apart_by (rep_at table) (differences (context_of rows said))) ex ey

  module _ (n : ℕ) (en : n ≡ row_count rows) where
    pub settled-apart : (b : Bool) → b ≡ apart_at n sets x y → b ≡ true → Settled rows table sets x y labels work true
    settled-apart b e q =
        record {
          blank = blank;
          so = λ said ready ex ey.
              sym
              (differ_by-stated (context_of rows said) ready.fit (rep_at table) ready.classes x y (inner h.0) (inner h.1)
              (both said ex ey ∙ sym (ready.prepared.apart x y h.0 h.1) ∙ ap (λ (v : ℕ). apart_at v sets x y) (sym en) ∙ sym e ∙ q));
        }

    pub settled-shut : (b r : Bool) → b ≡ apart_at n sets x y → b ≡ false → Open n sets x y r → r ≡ false → Settled rows table sets x y labels work false
    settled-shut b r e q o f =
        record {
          blank = blank;
          so = λ said ready ex ey. sym (go said ready ex ey ((subst (λ (v : ℕ). Open v sets x y r) en o).shut f));
        }
      where
        go : (said : List ℕ) → Ready rows said table sets → rep_at table x ≡ x → rep_at table y ≡ y
            → (x ≡ y) ⊎ ((beside_at (row_count rows) sets x y ≡ false) ⊎ ((live_at (row_count rows) sets x ≡ false) × (live_at (row_count rows) sets y ≡ false)))
            → differ_by (context_of rows said) x y ≡ false
        go said ready ex ey (inl w) =
            same-differ (context_of rows said) ready.fit ready.free (rep_at table) ready.classes x y (inner h.0) (inner h.1) (ap (rep_at table) w)
        go said ready ex ey (inr (inl w)) =
            beside-differ (context_of rows said) ready.fit ready.free (rep_at table) ready.classes x y (inner h.0) (inner h.1) (beside_at (row_count rows) sets) ready.prepared.beside
            (ap₂ (beside_at (row_count rows) sets) ex ey ∙ w)
            (both said ex ey ∙ sym (ready.prepared.apart x y h.0 h.1) ∙ ap (λ (v : ℕ). apart_at v sets x y) (sym en) ∙ sym e ∙ q)
        go said ready ex ey (inr (inr w)) =
            live-differ (context_of rows said) ready.fit ready.free (rep_at table) ready.classes x y (inner h.0) (inner h.1) (live_at (row_count rows) sets) ready.prepared.live
            (ap (live_at (row_count rows) sets) ex ∙ w.0)
            (ap (live_at (row_count rows) sets) ey ∙ w.1)

-- what two classes ask, with the number of rows as it was read
pub few-at : (n m : ℕ) → n ≡ m → words_for m ≤ most_words → words_for n ≤ most_words
few-at n m e h = subst (λ (v : ℕ). words_for v ≤ most_words) (sym e) h

pub pair-at : (n m x y : ℕ) → n ≡ m → (x < m) × (y < m) → (x < n) × (y < n)
pair-at n m x y e h = (omega (arith, h.0), omega (arith, h.1))

pub classes-two : (rows table sets labels work : List ℕ) (x y n : ℕ) (r : Bool) → Classes rows table sets labels work x y → Open n sets x y r → r ≡ true
    → TwoClasses rows table sets labels work x y
classes-two rows table sets labels work x y n r w o f =
    record {
      laid = w.laid;
      inside = w.inside;
      room = w.room;
      blank = w.blank;
      ends = record { left = w.left; right = w.right; other = o.other f };
    }

pub rows-classes : (rows table sets labels work : List ℕ) (a b x y n : ℕ) → Laid rows → Inside (row_count rows) table → sets_size (row_count rows) ≤ length sets
    → Blank (row_count rows) labels work → n ≡ row_count rows → a < n → b < n → x ≡ rep_at table a → y ≡ rep_at table b → Classes rows table sets labels work x y
rows-classes rows table sets labels work a b x y n laid inside room blank en ha hb ex ey =
    record {
      laid = laid;
      inside = inside;
      room = room;
      blank = blank;
      left = omega (arith, inside.each a (omega arith));
      right = omega (arith, inside.each b (omega arith));
    }

pub settled-tried : (rows table sets : List ℕ) (x y : ℕ) (labels work labels' work' : List ℕ) (n : ℕ) (r : Bool) → n ≡ row_count rows → Followed rows table sets x y labels work r
    → Blank n labels' work' → Settled rows table sets x y labels' work' r
settled-tried rows table sets x y labels work labels' work' n r en f b = record { blank = subst (λ (v : ℕ). Blank v labels' work') en b; so = f.so }

-- ---- two rows

module _ (rows table sets : List ℕ) (a b : ℕ) (n : ℕ) (en : n ≡ row_count rows) where
  pub asked-left : (labels work : List ℕ) → Blank (row_count rows) labels work → n ≤ a → Asked rows table sets a b labels work false
  asked-left labels work k h =
      record { blank = k; so = λ said ready. sym (differ_by-outside (context_of rows said) a b (inl (omega (arith, length-rows rows)))) }

  pub asked-right : (labels work : List ℕ) → Blank (row_count rows) labels work → n ≤ b → Asked rows table sets a b labels work false
  asked-right labels work k h =
      record { blank = k; so = λ said ready. sym (differ_by-outside (context_of rows said) a b (inr (omega (arith, length-rows rows)))) }

  pub asked-so : (x y : ℕ) (labels work : List ℕ) (r : Bool) → a < n → b < n → x ≡ rep_at table a → y ≡ rep_at table b → Settled rows table sets x y labels work r → Asked rows table sets a b labels work r
  asked-so x y labels work r ha hb ex ey s =
      record {
        blank = s.blank;
        so = λ said ready.
            s.so said ready (class said ready a ha x ex) (class said ready b hb y ey)
            ∙ ap₂ (differ_by (context_of rows said)) ex ey
            ∙ sym (differ_by-rep (context_of rows said) ready.fit (rep_at table) ready.classes a b (omega (arith, length-rows rows)) (omega (arith, length-rows rows)));
      }
    where
      class : (said : List ℕ) → Ready rows said table sets → (i : ℕ) → i < n → (z : ℕ) → z ≡ rep_at table i → rep_at table z ≡ z
      class said ready i h z e =
          rw e ((representatives-closed (context_of rows said) ready.fit (rep_at table) ready.classes).settled i (omega (arith, length-rows rows)))

pub ruleset mine = (
  rules,
  read_set,
  read-room,
  open-same,
  open-apart,
  open-left,
  open-right,
  settled-apart,
  settled-shut,
  settled-tried,
  classes-two,
  rows-classes,
  asked-left,
  asked-right,
  asked-so,
)
