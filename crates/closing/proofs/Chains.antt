-- Chains of rows: the search of a row's mate along its chain, and the pass over the rows. A merge may leave rows on a chain that is no longer
-- theirs. That loses nothing: the chains are needed whole only by a pass that changes nothing, and in such a pass all keys stay as they were.
--     Seeking     the search: the rows of the chain that were passed do not agree
--     Linked      the chains of the first rows, under one choice of keys
--     Passing     the pass: the first rows are done
--     mine        what `mate`, `join_row` and `join_rows` leave to show
-- Assumes nothing.
use mathlib.Core.Bool.{Bool, true, false}
use mathlib.Core.List.{List, map}
use mathlib.Core.Path.{◌≡◌, refl, ap, sym, ◌∙◌, subst}
use mathlib.Core.Logic.{◌⊎◌, inl, inr, ⊎_elim}
use Prim.Native.Nat.{ℕ, zero, suc, ◌+◌, ◌-◌, ◌≤◌, ◌<◌}
use native.Mathlib.Omega.{arith}
use lib.Dec.{eqb, ltb}
use lib.ListN.{length, get_or, set, replicate, length-set, get_or-replicate}
use lib.Seq.{get_or-set_same, get_or-set_other}
use borrow.Author.Rules.{rules}
use borrow.Author.Tests.{eqb-true, eqb-false, eq-eqb, ltb-true, ltb-false}
use Rattle.meaning.specs.Context.{Row, row_at}
use Rattle.meaning.specs.Equality.{rep_at}
use Rattle.meaning.specs.Formed.{Ordered}
use Rattle.meaning.specs.ByTable.{same_list}
use Rattle.meaning.specs.Columns.{rows_from}
use Rattle.meaning.specs.Closing.{agree, unite}
use Rattle.meaning.proofs.Logic.{and-true-left, and-true-right, false-true}
use Rattle.meaning.proofs.Lists.{same_list-true, same_list-self}
use Rattle.meaning.proofs.Closes.{agree-equal}
use Rattle.meaning.proofs.Built.{length-rows}
use Rattle.std.specs.Prelude.{Option, Some, None}
use Rattle.closing.specs.Steps.{Laid, key_of, one_more, Last, Nexts, Mate, unite_at, Joined, Kept, Outcome, Alike, Passed}
use Rattle.closing.proofs.Rows.{mix-below}
use Rattle.closing.proofs.Merges.{outcome-none, outcome-then, unite-outcome}

-- ---- rows that agree

abbrev pub SameAt : List Row → List ℕ → ℕ → ℕ → Type 0
SameAt rows l i j = ((row_at rows i).symbol ≡ (row_at rows j).symbol) × (map (rep_at l) (row_at rows i).args ≡ map (rep_at l) (row_at rows j).args)

pub agree-true : (rows : List Row) (l : List ℕ) (i j : ℕ) → agree rows l i j ≡ true → SameAt rows l i j
unfolding agree
agree-true rows l i j e =
    let a : Bool = eqb (row_at rows i).symbol (row_at rows j).symbol in
    let b : Bool = same_list (map (rep_at l) (row_at rows i).args) (map (rep_at l) (row_at rows j).args) in
    (eqb-true _ _ (and-true-left a b e), same_list-true _ _ (and-true-right a b e))

same-agree : (rows : List Row) (l : List ℕ) (i j : ℕ) → SameAt rows l i j → agree rows l i j ≡ true
unfolding agree
same-agree rows l i j s = rw (eq-eqb _ _ s.0, s.1) (same_list-self _)

same_key_lem : (rows : List Row) (l : List ℕ) (i j : ℕ) → SameAt rows l i j → key_of rows l j ≡ key_of rows l i
unfolding key_of
same_key_lem rows l i j s = rw (s.0, s.1)

key_below : (rows : List Row) (l : List ℕ) (i : ℕ) → key_of rows l i < 256
unfolding key_of
key_below rows l i = mix-below _ (map (rep_at l) (row_at rows i).args) (omega arith)

-- ---- the search along a chain

-- the rows on the chain from at on are to be searched, and those passed do not agree with row i
pub record Seeking (rows : List Row) (l next : List ℕ) (i head at : ℕ) : Type 0 where
  pub bound : at ≤ i
  pub links : (j : ℕ) → j < i → get_or next j 0 ≤ j
  pub far : (key : ℕ → ℕ) → Nexts key next i → Last key i (key i) head
      → ((j : ℕ) → at ≤ j → j < i → key j ≡ key i → agree rows l i j ≡ false) × ((p : ℕ) → at ≡ suc p → key p ≡ key i)

pub seeking-start : (rows : List Row) (l next : List ℕ) (i head : ℕ) → head ≤ i → ((j : ℕ) → j < i → get_or next j 0 ≤ j) → Seeking rows l next i head head
seeking-start rows l next i head h links =
    record { bound = h; links = links; far = λ key nexts last. (λ j a b e. absurd (last.passed j a b e), last.holds) }

pub seeking-next : {rows : List Row} {l next : List ℕ} {i head at x : ℕ} {r : Bool} → Seeking rows l next i head at → 0 < at
    → r ≡ agree rows l i (at - 1) → r ≡ false → x ≡ get_or next (at - 1) 0 → Seeking rows l next i head x
seeking-next {rows} {l} {next} {i} {head} {at} {x} {r} s h e f q =
    record { bound = omega (arith, s.links (at - 1) (omega (arith, s.bound)), s.bound); links = s.links; far = λ key nexts last. go key nexts (s.far key nexts last) }
  where
    p : ℕ
    p = at - 1

    at_p : at ≡ suc p
    at_p = omega arith

    go : (key : ℕ → ℕ) → Nexts key next i
        → (((j : ℕ) → at ≤ j → j < i → key j ≡ key i → agree rows l i j ≡ false) × ((k : ℕ) → at ≡ suc k → key k ≡ key i))
        → ((j : ℕ) → x ≤ j → j < i → key j ≡ key i → agree rows l i j ≡ false) × ((k : ℕ) → x ≡ suc k → key k ≡ key i)
    go key nexts far = (λ j a b t. cases j a b t (ltb j p) refl (eqb j p) refl, λ k t. link.holds k (sym q ∙ t) ∙ far.1 p at_p)
      where
        link : Last key p (key p) (get_or next p 0)
        link = nexts p (omega (arith, s.bound))

        cases : (j : ℕ) → x ≤ j → j < i → key j ≡ key i → (b : Bool) → ltb j p ≡ b → (c : Bool) → eqb j p ≡ c → agree rows l i j ≡ false
        cases j a b t true u c v = absurd (link.passed j (omega arith) (ltb-true j p u) (t ∙ sym (far.1 p at_p)))
        cases j a b t false u true v = rw (eqb-true j p v) (sym e ∙ f)
        cases j a b t false u false v = far.0 j (omega (arith, ltb-false j p u, eqb-false j p v)) b t

pub seeking-less : {rows : List Row} {l next : List ℕ} {i head at x : ℕ} → Seeking rows l next i head at → 0 < at → x ≡ get_or next (at - 1) 0 → x < at
seeking-less {rows} {l} {next} {i} {head} {at} {x} s h q = omega (arith, s.links (at - 1) (omega (arith, s.bound)))

pub seeking-found : {rows : List Row} {l next : List ℕ} {i head at : ℕ} {r : Bool} → Seeking rows l next i head at → 0 < at
    → r ≡ agree rows l i (at - 1) → r ≡ true → Mate rows l next i head (suc (at - 1))
seeking-found {rows} {l} {next} {i} {head} {at} {r} s h e f =
    record {
      bound = omega (arith, s.bound);
      agrees = λ p q. subst (λ (x : ℕ). agree rows l i x ≡ true) (omega arith) (sym e ∙ f);
      none = λ key nexts last z. absurd (omega arith);
    }

pub seeking-done : {rows : List Row} {l next : List ℕ} {i head at : ℕ} → Seeking rows l next i head at → at ≤ 0 → Mate rows l next i head 0
seeking-done {rows} {l} {next} {i} {head} {at} s h =
    record {
      bound = omega arith;
      agrees = λ p q. absurd (omega arith);
      none = λ key nexts last z j b t. (s.far key nexts last).0 j (omega arith) b t;
    }

-- ---- a row and its mate
pub joined-none : (rows : List Row) (next : List ℕ) (i head : ℕ) (l : List ℕ) (o : Option ℕ) → Mate rows l next i head (one_more o) → o ≡ None
    → Joined rows next i head l l
joined-none rows next i head l o m e = record { at = 0; mate = subst (λ x. Mate rows l next i head (one_more x)) e m; so = refl }

pub joined-mate : (rows : List Row) (next : List ℕ) (i head j : ℕ) (l n : List ℕ) (o : Option ℕ) → Mate rows l next i head (one_more o) → o ≡ Some j → n ≡ unite i j l
    → Joined rows next i head l n
joined-mate rows next i head j l n o m e q = record { at = suc j; mate = subst (λ x. Mate rows l next i head (one_more x)) e m; so = q }

-- ---- the pass over the rows

-- the chains of the first n rows
pub record Linked (key : ℕ → ℕ) (heads next : List ℕ) (n : ℕ) : Type 0 where
  pub nexts : Nexts key next n
  pub lasts : (b : ℕ) → b < 256 → Last key n b (get_or heads b 0)

-- what keeps the search inside the table, whatever the keys were
pub record Bounded (heads next : List ℕ) (n : ℕ) : Type 0 where
  pub long-heads : length heads ≡ 256
  pub long-next : length next ≡ 255
  pub heads-low : (b : ℕ) → b < 256 → get_or heads b 0 ≤ n
  pub nexts-low : (j : ℕ) → j < n → get_or next j 0 ≤ j

linked-start : (key : ℕ → ℕ) → Linked key (replicate 256 0) (replicate 255 0) 0
linked-start key =
    record {
      nexts = λ j h. absurd (omega arith);
      lasts = λ b h.
          record {
            bound = omega (arith, get_or-replicate {A = ℕ} 256 b 0 0 h);
            passed = λ j a k e. omega arith;
            holds = λ p e. absurd (omega (arith, get_or-replicate {A = ℕ} 256 b 0 0 h));
          };
    }

bounded-start : Bounded (replicate 256 0) (replicate 255 0) 0
bounded-start =
    record {
      long-heads = refl;
      long-next = refl;
      heads-low = λ b h. omega (arith, get_or-replicate {A = ℕ} 256 b 0 0 h);
      nexts-low = λ j h. absurd (omega arith);
    }

module _ {heads next : List ℕ} {n : ℕ} (bounded : Bounded heads next n) (room : n < 255) (b : ℕ) (small : b < 256) where
  heads-after : (c : ℕ) → c < 256 → ((c ≡ b) × (get_or (set heads b (n + 1)) c 0 ≡ suc n)) ⊎ ((c ≡ b → ⊥) × (get_or (set heads b (n + 1)) c 0 ≡ get_or heads c 0))
  heads-after c h = go (eqb c b) refl
    where
      go : (t : Bool) → eqb c b ≡ t
          → ((c ≡ b) × (get_or (set heads b (n + 1)) c 0 ≡ suc n)) ⊎ ((c ≡ b → ⊥) × (get_or (set heads b (n + 1)) c 0 ≡ get_or heads c 0))
      go true e = inl (eqb-true c b e, rw (eqb-true c b e) (get_or-set_same heads b (n + 1) 0 (omega (arith, bounded.long-heads)) ∙ omega arith))
      go false e = inr (eqb-false c b e, get_or-set_other heads b c (n + 1) 0 (eqb-false c b e))

  next-after : (j : ℕ) → j < n + 1 → ((j ≡ n) × (get_or (set next n (get_or heads b 0)) j 0 ≡ get_or heads b 0)) ⊎ ((j < n) × (get_or (set next n (get_or heads b 0)) j 0 ≡ get_or next j 0))
  next-after j h = go (eqb j n) refl
    where
      go : (t : Bool) → eqb j n ≡ t
          → ((j ≡ n) × (get_or (set next n (get_or heads b 0)) j 0 ≡ get_or heads b 0)) ⊎ ((j < n) × (get_or (set next n (get_or heads b 0)) j 0 ≡ get_or next j 0))
      go true e = inl (eqb-true j n e, rw (eqb-true j n e) (get_or-set_same next n (get_or heads b 0) 0 (omega (arith, bounded.long-next))))
      go false e = inr (omega (arith, eqb-false j n e), get_or-set_other next n j (get_or heads b 0) 0 (eqb-false j n e))

  bounded-next : Bounded (set heads b (n + 1)) (set next n (get_or heads b 0)) (n + 1)
  bounded-next =
      record {
        long-heads = length-set heads b (n + 1) ∙ bounded.long-heads;
        long-next = length-set next n (get_or heads b 0) ∙ bounded.long-next;
        heads-low = λ c h. ⊎_elim (λ w. omega (arith, w.1)) (λ w. omega (arith, w.1, bounded.heads-low c h)) (heads-after c h);
        nexts-low = λ j h. ⊎_elim (λ w. omega (arith, w.0, w.1, bounded.heads-low b small)) (λ w. omega (arith, w.1, bounded.nexts-low j w.0)) (next-after j h);
      }

  linked-next : (key : ℕ → ℕ) → b ≡ key n → Linked key heads next n → Linked key (set heads b (n + 1)) (set next n (get_or heads b 0)) (n + 1)
  linked-next key e k = record { nexts = λ j h. led j (next-after j h); lasts = λ c h. tops c h (heads-after c h) }
    where
      led : (j : ℕ)
          → ((j ≡ n) × (get_or (set next n (get_or heads b 0)) j 0 ≡ get_or heads b 0)) ⊎ ((j < n) × (get_or (set next n (get_or heads b 0)) j 0 ≡ get_or next j 0))
          → Last key j (key j) (get_or (set next n (get_or heads b 0)) j 0)
      led j (inl w) = rw (w.1, w.0) (subst (λ (x : ℕ). Last key n x (get_or heads b 0)) e (k.lasts b small))
      led j (inr w) = rw w.1 (k.nexts j w.0)

      tops : (c : ℕ) → c < 256
          → ((c ≡ b) × (get_or (set heads b (n + 1)) c 0 ≡ suc n)) ⊎ ((c ≡ b → ⊥) × (get_or (set heads b (n + 1)) c 0 ≡ get_or heads c 0))
          → Last key (n + 1) c (get_or (set heads b (n + 1)) c 0)
      tops c h (inl w) =
          record {
            bound = omega (arith, w.1);
            passed = λ j a l q. absurd (omega (arith, w.1));
            holds = λ p q. let z : p ≡ n = omega (arith, w.1) in ap key z ∙ sym e ∙ sym w.0;
          }
      tops c h (inr w) =
          let old : Last key n c (get_or heads c 0) = k.lasts c h in
          record {
            bound = omega (arith, w.1, old.bound);
            passed = λ j a l q. later j (omega (arith, w.1)) l q (eqb j n) refl;
            holds = λ p q. old.holds p (sym w.1 ∙ q);
          }
        where
          later : (j : ℕ) → get_or heads c 0 ≤ j → j < n + 1 → key j ≡ c → (t : Bool) → eqb j n ≡ t → ⊥
          later j a l q true u = w.0 (sym q ∙ ap key (eqb-true j n u) ∙ sym e)
          later j a l q false u = (k.lasts c h).passed j a (omega (arith, eqb-false j n u)) q

module _ (rows : List Row) (l next : List ℕ) (i head at : ℕ) (mate : Mate rows l next i head at) (last : Last (key_of rows l) i (key_of rows l i) head)
    (nexts : Nexts (key_of rows l) next i) (alike : Alike rows i l) (one : (p : ℕ) → at ≡ suc p → rep_at l i ≡ rep_at l p) where
  -- row i and an earlier row that agrees with it have one representative
  alike-mate : (j : ℕ) → j < i → SameAt rows l i j → rep_at l i ≡ rep_at l j
  alike-mate j h s = go at refl
    where
      go : (a : ℕ) → at ≡ a → rep_at l i ≡ rep_at l j
      go zero e = false-true (same-agree rows l i j s) (mate.none (key_of rows l) nexts last e j h (same_key_lem rows l i j s))
      go (suc p) e =
          let w : SameAt rows l i p = agree-true rows l i p (mate.agrees p e) in
          one p e ∙ alike p j (omega (arith, mate.bound)) h (sym w.0 ∙ s.0) (sym w.1 ∙ s.1)

  alike_next : Alike rows (i + 1) l
  alike_next a b ha hb e f = go (eqb a i) refl (eqb b i) refl
    where
      go : (x : Bool) → eqb a i ≡ x → (y : Bool) → eqb b i ≡ y → rep_at l a ≡ rep_at l b
      go true p true q = ap (rep_at l) (eqb-true a i p ∙ sym (eqb-true b i q))
      go true p false q =
          let z : a ≡ i = eqb-true a i p in
          ap (rep_at l) z ∙ alike-mate b (omega (arith, eqb-false b i q)) (subst (λ (x : ℕ). SameAt rows l x b) z (e, f))
      go false p true q =
          let z : b ≡ i = eqb-true b i q in
          sym (ap (rep_at l) z ∙ alike-mate a (omega (arith, eqb-false a i p)) (subst (λ (x : ℕ). SameAt rows l x a) z (sym e, sym f)))
      go false p false q = alike a b (omega (arith, eqb-false a i p)) (omega (arith, eqb-false b i q)) e f

-- the first i rows are done, of those of l
pub record Passing (symbols counts args : List ℕ) (n : ℕ) (l t heads next : List ℕ) (i : ℕ) : Type 0 where
  pub room : n ≤ 255
  pub reach : i ≤ n
  pub bounded : Bounded heads next i
  pub far : (eqs : List (ℕ × ℕ)) → Ordered (rows_from symbols counts args n) → Kept (rows_from symbols counts args n) eqs l
      → Outcome (rows_from symbols counts args n) eqs
      (Alike (rows_from symbols counts args n) i l × Linked (key_of (rows_from symbols counts args n) l) heads next i) l t

pub passing-start : (symbols counts args : List ℕ) (n : ℕ) (l heads next : List ℕ) → Laid counts args n → heads ≡ replicate 256 0 → next ≡ replicate 255 0
    → Passing symbols counts args n l l heads next 0
passing-start symbols counts args n l heads next laid eh en =
    rw (eh, en)
    (record {
      room = laid.room;
      reach = omega arith;
      bounded = bounded-start;
      far = λ eqs ordered kept. outcome-none _ eqs kept (λ i j hi. absurd (omega arith), linked-start _);
    })

module _ {symbols counts args : List ℕ} {n : ℕ} {l t heads next : List ℕ} {i : ℕ} (s : Passing symbols counts args n l t heads next i) where
  pub passing-links : (j : ℕ) → j < i → get_or next j 0 ≤ j
  passing-links = s.bounded.nexts-low

  pub passing-key : (b : ℕ) → b ≡ key_of (rows_from symbols counts args n) t i → b < 256
  passing-key b e = omega (arith, key_below (rows_from symbols counts args n) t i)

  pub passing-head : (b x h : ℕ) → b ≡ key_of (rows_from symbols counts args n) t i → x ≡ get_or heads b 0 → h ≡ x → h ≤ i
  passing-head b x h e ex eh = omega (arith, s.bounded.heads-low b (passing-key b e))

  pub passing-next : (b h : ℕ) (u : List ℕ) → i < n → b ≡ key_of (rows_from symbols counts args n) t i → h ≡ get_or heads b 0
      → Joined (rows_from symbols counts args n) next i h t u → Passing symbols counts args n l u (set heads b (i + 1)) (set next i (get_or heads b 0)) (i + 1)
  passing-next b h u more e eh joined =
      record {
        room = s.room;
        reach = omega arith;
        bounded = bounded-next s.bounded (omega (arith, s.room)) b (passing-key b e);
        far = λ eqs ordered kept. after eqs ordered (s.far eqs ordered kept);
      }
    where
      R : List Row
      R = rows_from symbols counts args n

      inside : i < length R
      inside = omega (arith, length-rows symbols counts args n)

      fits : length R ≤ 255
      fits = omega (arith, length-rows symbols counts args n, s.room)

      -- what one row does to the table as it is
      row : (eqs : List (ℕ × ℕ)) → Ordered R → Kept R eqs t → Outcome R eqs ((p : ℕ) → joined.at ≡ suc p → rep_at t i ≡ rep_at t p) t u
      row eqs ordered kept = rw joined.so (go joined.at refl)
        where
          go : (a : ℕ) → joined.at ≡ a → Outcome R eqs ((p : ℕ) → joined.at ≡ suc p → rep_at t i ≡ rep_at t p) t (unite_at i joined.at t)
          go zero z = rw z (outcome-none R eqs kept (λ p q. absurd (omega arith)))
          go (suc p) z =
              let w : SameAt R t i p = agree-true R t i p (joined.mate.agrees p z) in
              let hp : p < length R = omega (arith, joined.mate.bound, inside) in
              let o : Outcome R eqs (rep_at t i ≡ rep_at t p) t (unite i p t) =
              unite-outcome R eqs t fits kept i p inside hp (agree-equal R eqs ordered (rep_at t) kept.so i p inside hp w.0 w.1) in
              rw z
              (record { kept = o.kept; grown = o.grown; did = ⊎_elim (λ d. inl (d.0, λ q y. d.1 ∙ ap (rep_at t) (omega arith))) (λ d. inr d) o.did })

      after : (eqs : List (ℕ × ℕ)) → Ordered R → Outcome R eqs (Alike R i l × Linked (key_of R l) heads next i) l t
          → Outcome R eqs (Alike R (i + 1) l × Linked (key_of R l) (set heads b (i + 1)) (set next i (get_or heads b 0)) (i + 1)) l u
      after eqs ordered o = outcome-then R eqs o (row eqs ordered o.kept) close
        where
          close : t ≡ l → Alike R i l × Linked (key_of R l) heads next i → ((p : ℕ) → joined.at ≡ suc p → rep_at t i ≡ rep_at t p)
              → Alike R (i + 1) l × Linked (key_of R l) (set heads b (i + 1)) (set next i (get_or heads b 0)) (i + 1)
          close same old one =
              let k : b ≡ key_of R l i = e ∙ ap (λ (x : List ℕ). key_of R x i) same in
              let last : Last (key_of R l) i (key_of R l i) h = rw (eh, ← k) (old.1.lasts b (passing-key b e)) in (
                alike_next R l next i h joined.at (subst (λ (x : List ℕ). Mate R x next i h joined.at) same joined.mate) last old.1.nexts old.0
                    (subst (λ (x : List ℕ). (p : ℕ) → joined.at ≡ suc p → rep_at x i ≡ rep_at x p) same one),
                linked-next s.bounded (omega (arith, s.room)) b (passing-key b e) (key_of R l) k old.1,
              )

  pub passing-done : n ≤ i → Passed (rows_from symbols counts args n) l t
  passing-done h = record { outcome = λ eqs ordered kept. last eqs (s.far eqs ordered kept) }
    where
      R : List Row
      R = rows_from symbols counts args n

      last : (eqs : List (ℕ × ℕ)) → Outcome R eqs (Alike R i l × Linked (key_of R l) heads next i) l t → Outcome R eqs (Alike R (length R) l) l t
      last eqs o =
          let e : i ≡ length R = omega (arith, s.reach, length-rows symbols counts args n) in
          record { kept = o.kept; grown = o.grown; did = ⊎_elim (λ d. inl (d.0, subst (λ (x : ℕ). Alike R x l) e d.1.0)) (λ d. inr d) o.did }

pub ruleset mine = (
  rules,
  seeking-start,
  seeking-next,
  seeking-less,
  seeking-found,
  seeking-done,
  joined-none,
  joined-mate,
  passing-start,
  passing-links,
  passing-key,
  passing-head,
  passing-next,
  passing-done,
)
