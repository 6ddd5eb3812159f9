-- The marks: what a marked step cites is marked, and each marked step is the one asked for, or cited by a later one that is marked.
--     draft-at                 step i of a column
--     zeros-at                 a place of a column of zeros
--     CitedBy                  a marked step has a number among its own
--     for-self, for-closed, for-why   the marks for one step: its own; what marked steps cite; why a step is marked
-- Assumes nothing.
use mathlib.Core.Bool.{Bool, true, false, not}
use mathlib.Core.List.{List, [], ◌∷◌}
use mathlib.Core.Path.{◌≡◌, refl, ap, sym, ◌∙◌, subst}
use mathlib.Core.Logic.{◌⊎◌, inl, inr, ⊎_elim}
use Prim.Native.Nat.{ℕ, zero, suc, ◌+◌, ◌*◌, ◌≤◌, ◌<◌}
use native.Mathlib.Omega.{arith}
use lib.Dec.{eqb, ltb, leb}
use borrow.Author.Tests.{eqb-true, eqb-false, ltb-true, lt-ltb, leb-true, le-leb}
use lib.ListN.{length, get_or, set, replicate, length-set, length-replicate}
use lib.Seq.{get_or-set_same, get_or-set_other}
use Rattle.meaning.specs.Grounds.{step₀, step_at}
use Rattle.meaning.proofs.Lists.{length-snoc, snoc-at}
use Rattle.grounds_laws.specs.Limits.{draft_size}
use Rattle.grounds_laws.specs.Draft.{count_in, step_in, draft_to, draft, cell_in}
use Rattle.grounds_batches.specs.Marking.{kept, noted, noted_four, mark_one, marked, marked_for}
use Rattle.grounds_laws.proofs.Drafts.{length-draft_to}

-- ---- steps of a column

module _ (rows from owner : ℕ) (cells : List ℕ) where
  draft_to-at : (n i : ℕ) → i < n → step_at (draft_to rows from owner cells n) i ≡ step_in rows from owner cells i
  unfolding draft_to
  draft_to-at zero i h = absurd (omega arith)
  draft_to-at (suc n) i h =
      snoc-at (draft_to rows from owner cells n) (step_in rows from owner cells n) step₀ i (λ j s. s ≡ step_in rows from owner cells j)
      (omega (arith, length-snoc (draft_to rows from owner cells n) (step_in rows from owner cells n), length-draft_to rows from owner cells n))
      (λ l. draft_to-at n i (omega (arith, length-draft_to rows from owner cells n)))
      (ap (step_in rows from owner cells) (sym (length-draft_to rows from owner cells n)))

  pub draft-at : (i : ℕ) → i < count_in cells → step_at (draft rows from owner cells) i ≡ step_in rows from owner cells i
  unfolding draft
  draft-at i h = draft_to-at (count_in cells) i h

-- ---- one mark

kept_set : (marks : List ℕ) (i : ℕ) → get_or marks i 0 ≡ 1 → kept marks i ≡ true
unfolding kept
kept_set marks i e = rw e

kept_same : (marks other : List ℕ) (i : ℕ) → get_or marks i 0 ≡ get_or other i 0 → kept marks i ≡ kept other i
unfolding kept
kept_same marks other i e = rw e

length-noted : (limit r : ℕ) (marks : List ℕ) → length (noted limit r marks) ≡ length marks
unfolding noted
length-noted limit r marks = go (leb r limit) refl
  where
    go : (b : Bool) → leb r limit ≡ b → length (noted limit r marks) ≡ length marks
    go true e = rw (e, noted) (length-set marks r 1)
    go false e = rw (e, noted)

module _ (top limit r : ℕ) (marks : List ℕ) (long : length marks ≡ top + 1) (most : limit ≤ top) where
  noted-new : r ≤ limit → kept (noted limit r marks) r ≡ true
  unfolding noted
  noted-new h = rw (le-leb r limit h, noted) (kept_set (set marks r 1) r (get_or-set_same marks r 1 0 (omega arith)))

  noted_other : (i : ℕ) → limit < i → kept (noted limit r marks) i ≡ kept marks i
  unfolding noted
  noted_other i h = go (leb r limit) refl
    where
      go : (b : Bool) → leb r limit ≡ b → kept (noted limit r marks) i ≡ kept marks i
      go true e =
          let l : r ≤ limit = leb-true r limit e in rw (e, noted) (kept_same (set marks r 1) marks i (get_or-set_other marks r i 1 0 (λ z. omega arith)))
      go false e = rw (e, noted)

  noted-cases : (i : ℕ) → ((i ≡ r) × (r ≤ limit)) ⊎ (kept (noted limit r marks) i ≡ kept marks i)
  unfolding noted
  noted-cases i = go (leb r limit) refl (eqb i r) refl
    where
      go : (b : Bool) → leb r limit ≡ b → (d : Bool) → eqb i r ≡ d → ((i ≡ r) × (r ≤ limit)) ⊎ (kept (noted limit r marks) i ≡ kept marks i)
      go true e true f = inl (eqb-true i r f, leb-true r limit e)
      go true e false f = inr (rw (e, noted) (kept_same (set marks r 1) marks i (get_or-set_other marks r i 1 0 (eqb-false i r f))))
      go false e d f = inr (rw (e, noted))

  noted-keeps : (i : ℕ) → kept marks i ≡ true → kept (noted limit r marks) i ≡ true
  noted-keeps i e = ⊎_elim (λ p. subst (λ (j : ℕ). kept (noted limit r marks) j ≡ true) (sym p.0) (noted-new p.1)) (λ p. p ∙ e) (noted-cases i)

  noted-why : (i : ℕ) → kept (noted limit r marks) i ≡ true → (kept marks i ≡ true) ⊎ ((i ≡ r) × (r ≤ limit))
  noted-why i e = ⊎_elim (λ p. inr p) (λ p. inl (sym p ∙ e)) (noted-cases i)

-- ---- some marks

abbrev noted_list : ℕ → List ℕ → List ℕ → List ℕ
noted_list limit [] marks = marks
noted_list limit (r ∷ rs) marks = noted_list limit rs (noted limit r marks)

module _ (top limit : ℕ) (most : limit ≤ top) where
  list-long : (rs marks : List ℕ) → length (noted_list limit rs marks) ≡ length marks
  list-long [] marks = refl
  list-long (r ∷ rs) marks = list-long rs (noted limit r marks) ∙ length-noted limit r marks

  list-keeps : (rs marks : List ℕ) → length marks ≡ top + 1 → (i : ℕ) → kept marks i ≡ true → kept (noted_list limit rs marks) i ≡ true
  list-keeps [] marks l i e = e
  list-keeps (r ∷ rs) marks l i e = list-keeps rs (noted limit r marks) (length-noted limit r marks ∙ l) i (noted-keeps top limit r marks l most i e)

  list-new : (rs marks : List ℕ) → length marks ≡ top + 1 → (j : ℕ) → j < length rs → get_or rs j 0 ≤ limit → kept (noted_list limit rs marks) (get_or rs j 0) ≡ true
  list-new [] marks l j h b = absurd (omega arith)
  list-new (r ∷ rs) marks l zero h b = list-keeps rs (noted limit r marks) (length-noted limit r marks ∙ l) r (noted-new top limit r marks l most b)
  list-new (r ∷ rs) marks l (suc j) h b = list-new rs (noted limit r marks) (length-noted limit r marks ∙ l) j (omega arith) b

  list-other : (rs marks : List ℕ) → length marks ≡ top + 1 → (i : ℕ) → limit < i → kept (noted_list limit rs marks) i ≡ kept marks i
  list-other [] marks l i h = refl
  list-other (r ∷ rs) marks l i h = list-other rs (noted limit r marks) (length-noted limit r marks ∙ l) i h ∙ noted_other top limit r marks l most i h

  list-why : (rs marks : List ℕ) → length marks ≡ top + 1 → (i : ℕ) → kept (noted_list limit rs marks) i ≡ true
      → (kept marks i ≡ true) ⊎ ((j : ℕ) × (j < length rs) × (i ≡ get_or rs j 0) × (i ≤ limit))
  list-why [] marks l i e = inl e
  list-why (r ∷ rs) marks l i e = go (list-why rs (noted limit r marks) (length-noted limit r marks ∙ l) i e)
    where
      go : (kept (noted limit r marks) i ≡ true) ⊎ ((j : ℕ) × (j < length rs) × (i ≡ get_or rs j 0) × (i ≤ limit))
          → (kept marks i ≡ true) ⊎ ((j : ℕ) × (j < suc (length rs)) × (i ≡ get_or (r ∷ rs) j 0) × (i ≤ limit))
      go (inl f) = ⊎_elim (λ p. inl p) (λ p. inr (0, omega arith, p.0, omega (arith, p.0, p.1))) (noted-why top limit r marks l most i f)
      go (inr p) = inr (suc p.0, omega (arith, p.1), p.2, p.3)

-- ---- a step's marks

abbrev pub kind_at : List ℕ → ℕ → ℕ
kind_at cells i = cell_in cells i 1

abbrev pub cites_at : List ℕ → ℕ → List ℕ
cites_at cells i = cell_in cells i 4 ∷ cell_in cells i 5 ∷ cell_in cells i 6 ∷ cell_in cells i 7 ∷ []

four-list : (limit : ℕ) (cells : List ℕ) (i : ℕ) (marks : List ℕ) → noted_four limit cells (i * draft_size + 4) marks ≡ noted_list limit (cites_at cells i) marks
four-list limit cells i marks =
    let a : i * draft_size + 4 + 1 ≡ i * draft_size + 5 = omega arith in
    let b : i * draft_size + 4 + 2 ≡ i * draft_size + 6 = omega arith in
    let c : i * draft_size + 4 + 3 ≡ i * draft_size + 7 = omega arith in
    rw (a, b, c)

-- step i stays, and has p for one of its numbers
pub record CitedBy (cells marks : List ℕ) (i p : ℕ) : Type 0 where
  pub stays : kept marks (i + 1) ≡ true
  pub cites : 2 < kind_at cells i
  pub which : ℕ
  pub among : which < 4
  pub number : p ≡ get_or (cites_at cells i) which 0
  pub earlier : p ≤ i

module _ (top : ℕ) (cells : List ℕ) (n : ℕ) (most : n ≤ top) where
  -- step n marks nothing past n
  one-other : (marks : List ℕ) → length marks ≡ top + 1 → (i : ℕ) → n < i → kept (mark_one cells n marks) i ≡ kept marks i
  unfolding mark_one
  one-other marks l i h = go (kept marks (n + 1)) refl (ltb 2 (kind_at cells n)) refl
    where
      go : (b : Bool) → kept marks (n + 1) ≡ b → (d : Bool) → ltb 2 (kind_at cells n) ≡ d → kept (mark_one cells n marks) i ≡ kept marks i
      go true e true f = rw (e, mark_one, f, four-list n cells n marks) (list-other top n most (cites_at cells n) marks l i h)
      go true e false f = rw (e, mark_one, f)
      go false e d f = rw (e, mark_one)

  one-long : (marks : List ℕ) → length marks ≡ top + 1 → length (mark_one cells n marks) ≡ top + 1
  unfolding mark_one
  one-long marks l = go (kept marks (n + 1)) refl (ltb 2 (kind_at cells n)) refl
    where
      go : (b : Bool) → kept marks (n + 1) ≡ b → (d : Bool) → ltb 2 (kind_at cells n) ≡ d → length (mark_one cells n marks) ≡ top + 1
      go true e true f = rw (e, mark_one, f, four-list n cells n marks) (list-long top n most (cites_at cells n) marks ∙ l)
      go true e false f = rw (e, mark_one, f) l
      go false e d f = rw (e, mark_one) l

  one-keeps : (marks : List ℕ) → length marks ≡ top + 1 → (i : ℕ) → kept marks i ≡ true → kept (mark_one cells n marks) i ≡ true
  unfolding mark_one
  one-keeps marks l i x = go (kept marks (n + 1)) refl (ltb 2 (kind_at cells n)) refl
    where
      go : (b : Bool) → kept marks (n + 1) ≡ b → (d : Bool) → ltb 2 (kind_at cells n) ≡ d → kept (mark_one cells n marks) i ≡ true
      go true e true f = rw (e, mark_one, f, four-list n cells n marks) (list-keeps top n most (cites_at cells n) marks l i x)
      go true e false f = rw (e, mark_one, f) x
      go false e d f = rw (e, mark_one) x

  one-new : (marks : List ℕ) → length marks ≡ top + 1 → kept marks (n + 1) ≡ true → 2 < kind_at cells n → (j : ℕ) → j < 4 → get_or (cites_at cells n) j 0 ≤ n
      → kept (mark_one cells n marks) (get_or (cites_at cells n) j 0) ≡ true
  unfolding mark_one
  one-new marks l e h j b s = rw (e, mark_one, lt-ltb 2 (kind_at cells n) h, four-list n cells n marks) (list-new top n most (cites_at cells n) marks l j (omega arith) s)

  one-why : (marks : List ℕ) → length marks ≡ top + 1 → (p : ℕ) → kept (mark_one cells n marks) p ≡ true → (kept marks p ≡ true) ⊎ CitedBy cells marks n p
  unfolding mark_one
  one-why marks l p x = go (kept marks (n + 1)) refl (ltb 2 (kind_at cells n)) refl
    where
      go : (b : Bool) → kept marks (n + 1) ≡ b → (d : Bool) → ltb 2 (kind_at cells n) ≡ d → (kept marks p ≡ true) ⊎ CitedBy cells marks n p
      go true e true f =
          let y : kept (noted_list n (cites_at cells n) marks) p ≡ true = rw (e, mark_one, f, four-list n cells n marks) at x in
          ⊎_elim (λ q. inl q)
          (λ q. inr (record {
            stays = e;
            cites = ltb-true 2 (kind_at cells n) f;
            which = q.0;
            among = omega (arith, q.1);
            number = q.2;
            earlier = q.3;
          }))
          (list-why top n most (cites_at cells n) marks l p y)
      go true e false f = inl (rw (e, mark_one, f) at x)
      go false e d f = inl (rw (e, mark_one) at x)

-- ---- all steps

module _ (top : ℕ) (cells : List ℕ) where
  marked-keeps : (n : ℕ) → n ≤ top → (marks : List ℕ) → length marks ≡ top + 1 → (i : ℕ) → kept marks i ≡ true → kept (marked cells n marks) i ≡ true
  unfolding marked
  marked-keeps zero h marks l i e = e
  marked-keeps (suc n) h marks l i e =
      marked-keeps n (omega arith) (mark_one cells n marks) (one-long top cells n (omega arith) marks l) i (one-keeps top cells n (omega arith) marks l i e)

  marked_other : (n : ℕ) → n ≤ top → (marks : List ℕ) → length marks ≡ top + 1 → (i : ℕ) → n ≤ i → kept (marked cells n marks) i ≡ kept marks i
  unfolding marked
  marked_other zero h marks l i b = refl
  marked_other (suc n) h marks l i b =
      marked_other n (omega arith) (mark_one cells n marks) (one-long top cells n (omega arith) marks l) i (omega arith) ∙ one-other top cells n (omega arith) marks l i (omega arith)

  marked-closed : (n : ℕ) → n ≤ top → (marks : List ℕ) → length marks ≡ top + 1 → (i : ℕ) → i < n → kept (marked cells n marks) (i + 1) ≡ true → 2 < kind_at cells i
      → (j : ℕ) → j < 4 → get_or (cites_at cells i) j 0 ≤ i → kept (marked cells n marks) (get_or (cites_at cells i) j 0) ≡ true
  unfolding marked
  marked-closed zero h marks l i b e s j o r = absurd (omega arith)
  marked-closed (suc n) h marks l i b e s j o r = go (eqb i n) refl (marked-closed n (omega arith) (mark_one cells n marks) long i)
    where
      long : length (mark_one cells n marks) ≡ top + 1
      long = one-long top cells n (omega arith) marks l

      go : (d : Bool) → eqb i n ≡ d
          → (i < n → kept (marked cells n (mark_one cells n marks)) (i + 1) ≡ true → 2 < kind_at cells i → (j : ℕ) → j < 4 → get_or (cites_at cells i) j 0 ≤ i
          → kept (marked cells n (mark_one cells n marks)) (get_or (cites_at cells i) j 0) ≡ true)
          → kept (marked cells n (mark_one cells n marks)) (get_or (cites_at cells i) j 0) ≡ true
      go true q ih =
          let z : n ≡ i = sym (eqb-true i n q) in
          marked-keeps n (omega arith) (mark_one cells n marks) long (get_or (cites_at cells i) j 0)
          (subst (λ (x : ℕ). kept (mark_one cells n marks) (get_or (cites_at cells x) j 0) ≡ true) z
          (one-new top cells n (omega arith) marks l here (subst (λ (x : ℕ). 2 < kind_at cells x) (sym z) s) j o (subst (λ (x : ℕ). get_or (cites_at cells x) j 0 ≤ x) (sym z) r)))
        where
          here : kept marks (n + 1) ≡ true
          here =
              sym (one-other top cells n (omega arith) marks l (n + 1) (omega arith))
              ∙ sym (marked_other n (omega arith) (mark_one cells n marks) long (n + 1) (omega arith))
              ∙ subst (λ (x : ℕ). kept (marked cells n (mark_one cells n marks)) (x + 1) ≡ true) (eqb-true i n q) e
      go false q ih = ih (omega (arith, eqb-false i n q)) e s j o r

  -- a step that stays was marked before, or is cited by a step that stays
  marked-why : (n : ℕ) → n ≤ top → (marks : List ℕ) → length marks ≡ top + 1 → (p : ℕ) → kept (marked cells n marks) p ≡ true
      → (kept marks p ≡ true) ⊎ ((i : ℕ) × (i < n) × CitedBy cells (marked cells n marks) i p)
  unfolding marked
  marked-why zero h marks l p e = inl e
  marked-why (suc n) h marks l p e = go (marked-why n (omega arith) (mark_one cells n marks) long p e)
    where
      long : length (mark_one cells n marks) ≡ top + 1
      long = one-long top cells n (omega arith) marks l

      go : (kept (mark_one cells n marks) p ≡ true) ⊎ ((i : ℕ) × (i < n) × CitedBy cells (marked cells n (mark_one cells n marks)) i p)
          → (kept marks p ≡ true) ⊎ ((i : ℕ) × (i < suc n) × CitedBy cells (marked cells n (mark_one cells n marks)) i p)
      go (inr q) = inr (q.0, omega (arith, q.1), q.2)
      go (inl x) = ⊎_elim (λ q. inl q) (λ q. inr (n, omega arith, later q)) (one-why top cells n (omega arith) marks l p x)
        where
          later : CitedBy cells marks n p → CitedBy cells (marked cells n (mark_one cells n marks)) n p
          later q =
              record {
                stays = marked-keeps n (omega arith) (mark_one cells n marks) long (n + 1) (one-keeps top cells n (omega arith) marks l (n + 1) q.stays);
                cites = q.cites;
                which = q.which;
                among = q.among;
                number = q.number;
                earlier = q.earlier;
              }

-- ---- the marks for one step

pub zeros-at : (n j : ℕ) → ◌≡◌ {A = ℕ} (get_or (replicate n 0) j 0) 0
zeros-at zero j = refl
zeros-at (suc n) zero = refl
zeros-at (suc n) (suc j) = zeros-at n j

none_kept : (n p : ℕ) → kept (replicate n 0) p ≡ true → ⊥
unfolding kept
none_kept n p e =
    let o : not (eqb 0 0) ≡ true = subst (λ (x : ℕ). not (eqb x 0) ≡ true) (zeros-at n p) e in let y : ◌≡◌ {A = ℕ} 0 1 = cc in omega arith

module _ (cells : List ℕ) (s : ℕ) where
  abbrev top : ℕ
  top = count_in cells

  abbrev first : List ℕ
  first = noted (count_in cells) s (replicate (top + 1) 0)

  first-long : length first ≡ top + 1
  first-long = length-noted (count_in cells) s (replicate (top + 1) 0) ∙ length-replicate {A = ℕ} (top + 1) 0

  pub for-self : s ≤ count_in cells → kept (marked_for cells s) s ≡ true
  unfolding marked_for
  for-self h =
      marked-keeps top cells (count_in cells) (omega arith) first first-long s
      (noted-new top (count_in cells) s (replicate (top + 1) 0) (length-replicate {A = ℕ} (top + 1) 0) (omega arith) h)

  pub for-closed : (i : ℕ) → i < count_in cells → kept (marked_for cells s) (i + 1) ≡ true → 2 < kind_at cells i → (j : ℕ) → j < 4
      → get_or (cites_at cells i) j 0 ≤ i
      → kept (marked_for cells s) (get_or (cites_at cells i) j 0) ≡ true
  unfolding marked_for
  for-closed = marked-closed top cells (count_in cells) (omega arith) first first-long

  pub for-why : (p : ℕ) → kept (marked_for cells s) p ≡ true → (p ≡ s) ⊎ ((i : ℕ) × (i < count_in cells) × CitedBy cells (marked_for cells s) i p)
  unfolding marked_for
  for-why p e =
      ⊎_elim
      (λ f.
      ⊎_elim (λ z. absurd (none_kept (top + 1) p z)) (λ z. inl z.0)
      (noted-why top (count_in cells) s (replicate (top + 1) 0) (length-replicate {A = ℕ} (top + 1) 0) (omega arith) p f))
      (λ f. inr f)
      (marked-why top cells (count_in cells) (omega arith) first first-long p e)
