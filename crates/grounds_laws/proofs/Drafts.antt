-- What a column of steps holds after one step more, and which steps go on to follow.
--     owner-shared, owner-own   the owner of one of the first steps, and of a later one
--     draft-take                the first steps of a column
--     Under, under-draft        a column begins with the steps of another one, which are shared
--     draft-pushed              the steps before, and the new one
--     pushed-under              which the column still begins with
--     follow-snoc, cites-snoc   a step that follows from all others may stand after them, and what was cited still is
--     cites-shared              what all may cite, an owner may
-- Assumes nothing.
use mathlib.Core.Bool.{Bool, true, false}
use mathlib.Core.List.{List, [], ◌∷◌, ◌++◌}
use mathlib.Core.Path.{◌≡◌, refl, ap, ap₂, sym, ◌∙◌}
use mathlib.Core.Logic.{inl, inr, ⊎_elim}
use Prim.Native.Nat.{ℕ, zero, suc, ◌+◌, ◌*◌, ◌≤◌, ◌<◌}
use native.Mathlib.Omega.{arith}
use lib.Dec.{eqb}
use borrow.Author.Tests.{eqb-true, eqb-false, lt-ltb, le-ltb}
use lib.ListN.{length, get_or, set, take, length-set}
use lib.Seq.{sets, length-sets, get_or-set_same, get_or-set_other, take_all, take-append-le, take-append_seam, get_or-append_seam}
use lib.ListN.{get_or-append}
use Rattle.meaning.specs.Context.{Term, Context}
use Rattle.meaning.specs.Rules.{Clause}
use Rattle.meaning.specs.Grounds.{Step, step₀, step_at, Stands, Cites, Each, Follows}
use Rattle.meaning.proofs.Lists.{length-snoc, snoc-at}
use Rattle.grounds_numbers.specs.Limits.{most_numbers}
use Rattle.grounds_steps.specs.Steps.{most_each}
use Rattle.grounds_laws.specs.Limits.{draft_size, draft_run}
use Rattle.grounds_laws.specs.Draft.{step_of, count_in, owner_at, step_in, draft_to, draft, laid, Written, pushed, room_in}

-- ---- a run of places

pub sets-other : (vs l : List ℕ) (i j d : ℕ) → j < i → get_or (sets l i vs) j d ≡ get_or l j d
sets-other [] l i j d h = refl
sets-other (v ∷ vs) l i j d h = sets-other vs (set l i v) (suc i) j d (omega arith) ∙ get_or-set_other l i j v d (λ e. omega arith)

pub sets_same : (vs l : List ℕ) (i k d : ℕ) → k < length vs → i + length vs ≤ length l → get_or (sets l i vs) (i + k) d ≡ get_or vs k d
sets_same [] l i k d h r = absurd (omega arith)
sets_same (v ∷ vs) l i zero d h r =
    ap (λ (j : ℕ). get_or (sets (set l i v) (suc i) vs) j d) (omega arith)
    ∙ sets-other vs (set l i v) (suc i) i d (omega arith)
    ∙ get_or-set_same l i v d (omega arith)
sets_same (v ∷ vs) l i (suc k) d h r =
    ap (λ (j : ℕ). get_or (sets (set l i v) (suc i) vs) j d) (omega arith)
    ∙ sets_same vs (set l i v) (suc i) k d (omega arith) (omega (arith, length-set l i v))

laid-sets : (l : List ℕ) (p kind x y a b c d : ℕ) → laid l p kind x y a b c d ≡ sets l (p + 1) (kind ∷ x ∷ y ∷ a ∷ b ∷ c ∷ d ∷ [])
laid-sets l p kind x y a b c d =
    let e₂ : p + 2 ≡ suc (p + 1) = omega arith in
    let e₃ : p + 3 ≡ suc (suc (p + 1)) = omega arith in
    let e₄ : p + 4 ≡ suc (suc (suc (p + 1))) = omega arith in
    let e₅ : p + 5 ≡ suc (suc (suc (suc (p + 1)))) = omega arith in
    let e₆ : p + 6 ≡ suc (suc (suc (suc (suc (p + 1))))) = omega arith in
    let e₇ : p + 7 ≡ suc (suc (suc (suc (suc (suc (p + 1)))))) = omega arith in
    rw (e₂, e₃, e₄, e₅, e₆, e₇)

-- ---- steps and their owners

pub owner-shared : (from owner i : ℕ) → i < from → owner_at from owner i ≡ 0
unfolding owner_at
owner-shared from owner i h = rw (lt-ltb i from h, owner_at)

pub owner-own : (from owner i : ℕ) → from ≤ i → owner_at from owner i ≡ owner
unfolding owner_at
owner-own from owner i h = rw (le-ltb i from h, owner_at)

module _ (rows from owner : ℕ) where
  pub length-draft_to : (cells : List ℕ) (n : ℕ) → length (draft_to rows from owner cells n) ≡ n
  unfolding draft_to
  length-draft_to cells zero = refl
  length-draft_to cells (suc n) = length-snoc (draft_to rows from owner cells n) _ ∙ ap suc (length-draft_to cells n)

  pub length-draft : (cells : List ℕ) → length (draft rows from owner cells) ≡ count_in cells
  unfolding draft
  length-draft cells = length-draft_to cells (count_in cells)

  draft_to-take : (cells : List ℕ) (n m : ℕ) → n ≤ m → take n (draft_to rows from owner cells m) ≡ draft_to rows from owner cells n
  unfolding draft_to
  draft_to-take cells n zero h = let e : n ≡ 0 = omega arith in rw e refl
  draft_to-take cells n (suc m) h = go (eqb n (suc m)) refl (draft_to-take cells n m)
    where
      go : (b : Bool) → eqb n (suc m) ≡ b → (n ≤ m → take n (draft_to rows from owner cells m) ≡ draft_to rows from owner cells n)
          → take n (draft_to rows from owner cells (suc m)) ≡ draft_to rows from owner cells n
      go true e ih = let z : n ≡ suc m = eqb-true n (suc m) e in rw z (take_all (suc m) _ (omega (arith, length-draft_to cells (suc m))))
      go false e ih =
          let l : n ≤ m = omega (arith, eqb-false n (suc m) e) in
          take-append-le n (draft_to rows from owner cells m) _ (omega (arith, length-draft_to cells m)) ∙ ih l

  pub draft-take : (cells : List ℕ) (n : ℕ) → n ≤ count_in cells → take n (draft rows from owner cells) ≡ draft_to rows from owner cells n
  unfolding draft
  draft-take cells n h = draft_to-take cells n (count_in cells) h

-- ---- columns that begin alike

-- the first n steps of a column are the first of another; what stands behind them means nothing
pub record Under (n : ℕ) (cells other : List ℕ) : Type 0 where
  pub long : length other ≡ length cells
  pub places : (j : ℕ) → 0 < j → j ≤ n * draft_size → get_or other j 0 ≡ get_or cells j 0

pub under-self : (n : ℕ) (cells : List ℕ) → Under n cells cells
under-self n cells = record { long = refl; places = λ j h l. refl }

pub under-then : {n m : ℕ} {cells other third : List ℕ} → n ≤ m → Under n cells other → Under m other third → Under n cells third
under-then h p q = record { long = q.long ∙ p.long; places = λ j b l. q.places j b (omega arith) ∙ p.places j b l }

-- whatever the count is said to be
pub under-counted : {n : ℕ} {cells other : List ℕ} (v : ℕ) → Under n cells other → Under n cells (set other 0 v)
under-counted {other = other} v w =
    record {
      long = length-set other 0 v ∙ w.long;
      places = λ j b l. get_or-set_other other 0 j v 0 (λ e. omega arith) ∙ w.places j b l;
    }

-- two columns that hold the same in a step's places
step_in-same : (rows from owner from' owner' : ℕ) (cells other : List ℕ) (i : ℕ) → owner_at from' owner' i ≡ owner_at from owner i
    → ((j : ℕ) → i * draft_size < j → j ≤ i * draft_size + 7 → get_or other j 0 ≡ get_or cells j 0)
    → step_in rows from' owner' other i ≡ step_in rows from owner cells i
unfolding step_in
step_in-same rows from owner from' owner' cells other i e w =
    rw (
      e,
      w (i * draft_size + 1) (omega arith) (omega arith),
      w (i * draft_size + 2) (omega arith) (omega arith),
      w (i * draft_size + 3) (omega arith) (omega arith),
      w (i * draft_size + 4) (omega arith) (omega arith),
      w (i * draft_size + 5) (omega arith) (omega arith),
      w (i * draft_size + 6) (omega arith) (omega arith),
      w (i * draft_size + 7) (omega arith) (omega arith),
    )

draft_to-same : (rows from owner from' owner' : ℕ) (cells other : List ℕ) (n : ℕ)
    → ((i : ℕ) → i < n → owner_at from' owner' i ≡ owner_at from owner i)
    → ((j : ℕ) → 0 < j → j ≤ n * draft_size → get_or other j 0 ≡ get_or cells j 0)
    → draft_to rows from' owner' other n ≡ draft_to rows from owner cells n
unfolding draft_to
draft_to-same rows from owner from' owner' cells other zero e w = refl
draft_to-same rows from owner from' owner' cells other (suc n) e w =
    ap₂ (λ (l : List Step) (s : Step). l ++ (s ∷ []))
    (draft_to-same rows from owner from' owner' cells other n (λ i h. e i (omega arith)) (λ j h l. w j h (omega arith)))
    (step_in-same rows from owner from' owner' cells other n (e n (omega arith)) (λ j h l. w j (omega arith) (omega arith)))

-- the first steps of an owner's column are shared
pub under-draft : (rows from owner : ℕ) (cells other : List ℕ) → Under from cells other → draft_to rows from owner other from ≡ draft_to rows 0 0 cells from
under-draft rows from owner cells other w =
    draft_to-same rows 0 0 from owner cells other from (λ i h. owner-shared from owner i h ∙ sym (owner-own 0 0 i (omega arith))) w.places

-- ---- one step more

module _ (rows from owner : ℕ) (cells : List ℕ) (kind x y a b c d : ℕ) (long : length cells ≡ draft_run) (room : count_in cells < most_each) where
  abbrev n : ℕ
  n = count_in cells

  abbrev values : List ℕ
  values = kind ∷ x ∷ y ∷ a ∷ b ∷ c ∷ d ∷ []

  abbrev after : List ℕ
  after = set (laid cells (n * draft_size) kind x y a b c d) 0 (n + 1)

  roomy : room_in cells ≡ true
  unfolding room_in
  roomy = rw (lt-ltb (n + 1) most_numbers (omega arith), lt-ltb (n * draft_size + draft_size) (length cells) (omega (arith, long)))

  pub pushed_room : pushed cells kind x y a b c d ≡ record { cells = after; number = n + 1 }
  unfolding pushed
  pushed_room = rw (roomy, pushed)

  laid-length : length (laid cells (n * draft_size) kind x y a b c d) ≡ draft_run
  laid-length = ap length (laid-sets cells (n * draft_size) kind x y a b c d) ∙ length-sets cells (n * draft_size + 1) values ∙ long

  length-after : length after ≡ draft_run
  length-after = length-set (laid cells (n * draft_size) kind x y a b c d) 0 (n + 1) ∙ laid-length

  count-after : count_in after ≡ suc n
  count-after = get_or-set_same (laid cells (n * draft_size) kind x y a b c d) 0 (n + 1) 0 (omega (arith, laid-length)) ∙ omega arith

  before : (j : ℕ) → 0 < j → j ≤ n * draft_size → get_or after j 0 ≡ get_or cells j 0
  before j h l =
      get_or-set_other (laid cells (n * draft_size) kind x y a b c d) 0 j (n + 1) 0 (λ e. omega arith)
      ∙ ap (λ (z : List ℕ). get_or z j 0) (laid-sets cells (n * draft_size) kind x y a b c d)
      ∙ sets-other values cells (n * draft_size + 1) j 0 (omega arith)

  placed : (k j : ℕ) → k < draft_size → j ≡ n * draft_size + 1 + k → get_or after j 0 ≡ get_or values k 0
  placed k j h e =
      get_or-set_other (laid cells (n * draft_size) kind x y a b c d) 0 j (n + 1) 0 (λ z. omega arith)
      ∙ ap₂ (λ (z : List ℕ) (i : ℕ). get_or z i 0) (laid-sets cells (n * draft_size) kind x y a b c d) e
      ∙ sets_same values cells (n * draft_size + 1) k 0 (omega arith) (omega (arith, long))

  step_after : step_in rows from owner after n ≡ step_of rows (owner_at from owner n) kind x y (a ∷ b ∷ c ∷ d ∷ [])
  unfolding step_in
  step_after =
      rw (
        placed 0 (n * draft_size + 1) (omega arith) (omega arith),
        placed 1 (n * draft_size + 2) (omega arith) (omega arith),
        placed 2 (n * draft_size + 3) (omega arith) (omega arith),
        placed 3 (n * draft_size + 4) (omega arith) (omega arith),
        placed 4 (n * draft_size + 5) (omega arith) (omega arith),
        placed 5 (n * draft_size + 6) (omega arith) (omega arith),
        placed 6 (n * draft_size + 7) (omega arith) (omega arith),
      )

  pub draft-pushed : draft rows from owner (pushed cells kind x y a b c d).cells
      ≡ draft rows from owner cells ++ (step_of rows (owner_at from owner (count_in cells)) kind x y (a ∷ b ∷ c ∷ d ∷ []) ∷ [])
  unfolding draft draft_to
  draft-pushed =
      ap (λ (w : Written). draft_to rows from owner w.cells (count_in w.cells)) pushed_room
      ∙ ap (draft_to rows from owner after) count-after
      ∙ ap₂ (λ (l : List Step) (s : Step). l ++ (s ∷ [])) (draft_to-same rows from owner from owner cells after n (λ i h. refl) before) step_after

  pub pushed-under : Under (count_in cells) cells (pushed cells kind x y a b c d).cells
  pushed-under = rw pushed_room (record { long = length-after ∙ sym long; places = before })

  pub length-pushed : length (pushed cells kind x y a b c d).cells ≡ draft_run
  length-pushed = ap (λ (w : Written). length w.cells) pushed_room ∙ length-after

  pub count-pushed : count_in (pushed cells kind x y a b c d).cells ≡ suc (count_in cells)
  count-pushed = ap (λ (w : Written). count_in w.cells) pushed_room ∙ count-after

  pub number_pushed : (pushed cells kind x y a b c d).number ≡ suc (count_in cells)
  number_pushed = ap (λ (w : Written). w.number) pushed_room ∙ omega arith

-- ---- following and citing

module _ (c : Context) (k : Clause) (a : List ℕ) where
  abbrev pub Follow : List Step → Type 0
  Follow steps = Each (length steps) (λ i. Follows c k a (take i steps) (step_at steps i))

  pub follow-snoc : (steps : List Step) (s : Step) → Follow steps → Follows c k a steps s → Follow (steps ++ (s ∷ []))
  follow-snoc steps s w f i h =
      snoc-at steps s step₀ i (λ j z. Follows c k a (take j (steps ++ (s ∷ []))) z) h
      (λ l. rw (take-append-le i steps (s ∷ []) (omega arith)) (w i l))
      (rw (take-append_seam steps (s ∷ [])) f)

  pub cites-snoc : {steps : List Step} (s : Step) {o n : ℕ} {t u : Term} → Cites c k a steps o n t u → Cites c k a (steps ++ (s ∷ [])) o n t u
  cites-snoc {steps} s {o} {n} {t} {u} w =
      record {
        place = w.place;
        counted = w.counted;
        inside = omega (arith, length-snoc steps s, w.inside);
        usable = rw (get_or-append steps (s ∷ []) step₀ w.place w.inside) w.usable;
        left = rw (get_or-append steps (s ∷ []) step₀ w.place w.inside) w.left;
        right = rw (get_or-append steps (s ∷ []) step₀ w.place w.inside) w.right;
      }

  pub cites-last : (steps : List Step) (s : Step) (t u : Term) → Stands c k a s.left t → Stands c k a s.right u
      → Cites c k a (steps ++ (s ∷ [])) s.owner (suc (length steps)) t u
  cites-last steps s t u l r =
      record {
        place = length steps;
        counted = refl;
        inside = omega (arith, length-snoc steps s);
        usable = rw (get_or-append_seam steps s [] step₀) (inr refl);
        left = rw (get_or-append_seam steps s [] step₀) l;
        right = rw (get_or-append_seam steps s [] step₀) r;
      }

  pub cites-shared : {steps : List Step} (o : ℕ) {n : ℕ} {t u : Term} → Cites c k a steps 0 n t u → Cites c k a steps o n t u
  cites-shared o w =
      record {
        place = w.place;
        counted = w.counted;
        inside = w.inside;
        usable = ⊎_elim (λ e. inl e) (λ e. inl e) w.usable;
        left = w.left;
        right = w.right;
      }
