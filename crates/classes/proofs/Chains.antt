-- Chains of rows: the search of a row's mate along its chain, and the pass over the rows. A merge may leave rows on a chain that is no longer
-- theirs. That loses nothing: the chains are needed whole only by a pass that changes nothing, and in such a pass all keys stay as they were.
--     Seeking     the search: the rows of the chain that were passed do not agree
--     Linked      the chains of the first rows, under one choice of keys
--     Passing     the pass: the first rows are done
--     mine        what `mate`, `join_row`, `visit` and `join_rows` leave to show
-- Assumes nothing.
use mathlib.Core.Bool.{Bool, true, false}
use mathlib.Core.List.{List, map}
use mathlib.Core.Path.{◌≡◌, refl, ap, sym, ◌∙◌, subst}
use mathlib.Core.Logic.{◌⊎◌, inl, inr, ⊎_elim}
use Prim.Native.Nat.{ℕ, suc, ◌+◌, ◌≤◌, ◌<◌}
use native.Mathlib.Omega.{arith}
use lib.Dec.{eqb, ltb}
use lib.ListN.{length, get_or, set, replicate, length-set, get_or-replicate}
use lib.Seq.{get_or-set_same, get_or-set_other}
use borrow.Author.Rules.{rules}
use borrow.Author.Tests.{eqb-true, eqb-false, eq-eqb, ltb-true, ltb-false}
use Rattle.std.specs.Prelude.{Option, Some, None}
use Rattle.runs.specs.Limits.{most_rows}
use Rattle.meaning.specs.Context.{Row, row_at}
use Rattle.meaning.specs.Equality.{rep_at}
use Rattle.meaning.specs.Formed.{Ordered}
use Rattle.meaning.specs.ByTable.{same_list}
use Rattle.meaning.specs.Closing.{agree}
use Rattle.meaning.proofs.Logic.{and-true-left, and-true-right, false-true}
use Rattle.meaning.proofs.Lists.{same_list-true, same_list-self}
use Rattle.meaning.proofs.Closes.{agree-equal}
use Rattle.runs.specs.Runs.{row_count, rows_of}
use Rattle.runs.proofs.Saying.{length-rows}
use Rattle.classes.specs.Steps.{chains, Laid, merge, key_of, link_of, Last, Nexts, Mate, merge_at, Joined, Bounded, Visited, Kept, Outcome, Alike, Passed}
use Rattle.classes.proofs.Rows.{mix-below}
use Rattle.classes.proofs.Merges.{outcome-none, outcome-then, merge-outcome}

-- ---- rows that agree

abbrev pub SameAt : List Row → List ℕ → ℕ → ℕ → Type 0
SameAt rows l i j = ((row_at rows i).symbol ≡ (row_at rows j).symbol) × (map (rep_at l) (row_at rows i).args ≡ map (rep_at l) (row_at rows j).args)

pub agree-true : (rows : List Row) (l : List ℕ) (i j : ℕ) → agree rows l i j ≡ true → SameAt rows l i j
unfolding agree
agree-true rows l i j e =
    let a : Bool = eqb (row_at rows i).symbol (row_at rows j).symbol in
    let b : Bool = same_list (map (rep_at l) (row_at rows i).args) (map (rep_at l) (row_at rows j).args) in
    (eqb-true _ _ (and-true-left a b e), same_list-true _ _ (and-true-right a b e))

same-agree : (rows : List Row) (l : List ℕ) (i j : ℕ) → SameAt rows l i j → agree rows l i j ≡ true
unfolding agree
same-agree rows l i j s = rw (eq-eqb _ _ s.0, s.1) (same_list-self _)

same_key_lem : (rows : List Row) (l : List ℕ) (i j : ℕ) → SameAt rows l i j → key_of rows l j ≡ key_of rows l i
unfolding key_of
same_key_lem rows l i j s = rw (s.0, s.1)

key_below : (rows : List Row) (l : List ℕ) (i : ℕ) → key_of rows l i < chains
unfolding key_of
key_below rows l i = mix-below _ (map (rep_at l) (row_at rows i).args) (omega arith)

-- ---- the search along a chain

-- the rows on the chain from at on are to be searched, and those passed do not agree with row i
pub record Seeking (rows : List Row) (l next : List ℕ) (i head : ℕ) (at : Option ℕ) : Type 0 where
  pub bound : link_of at ≤ i
  pub links : (j : ℕ) → j < i → get_or next j 0 ≤ j
  pub far : (key : ℕ → ℕ) → Nexts key next i → Last key i (key i) head
      → ((j : ℕ) → link_of at ≤ j → j < i → key j ≡ key i → agree rows l i j ≡ false) × ((p : ℕ) → at ≡ Some p → key p ≡ key i)

pub seeking-start : (rows : List Row) (l next : List ℕ) (i head : ℕ) (at : Option ℕ) → link_of at ≡ head → head ≤ i
    → ((j : ℕ) → j < i → get_or next j 0 ≤ j) → Seeking rows l next i head at
unfolding link_of
seeking-start rows l next i head at e h links =
    record {
      bound = omega (arith, e);
      links = links;
      far = λ key nexts last. (λ j a b t. absurd (last.passed j (omega (arith, e)) b t), λ p q. last.holds p (sym e ∙ ap link_of q));
    }

module _ {rows : List Row} {l next : List ℕ} {i head : ℕ} {at : Option ℕ} {j : ℕ} (s : Seeking rows l next i head at) (so : at ≡ Some j) where
  link-is : link_of at ≡ suc j
  unfolding link_of
  link-is = ap link_of so

  pub seeking-inside : j < i
  seeking-inside = omega (arith, link-is, s.bound)

  pub seeking-next : {x : Option ℕ} {r : Bool} → r ≡ agree rows l i j → r ≡ false → link_of x ≡ get_or next j 0 → Seeking rows l next i head x
  unfolding link_of
  seeking-next {x} {r} e f q =
      record { bound = omega (arith, s.links j seeking-inside, seeking-inside, q); links = s.links; far = λ key nexts last. go key nexts (s.far key nexts last) }
    where
      go : (key : ℕ → ℕ) → Nexts key next i
          → (((k : ℕ) → link_of at ≤ k → k < i → key k ≡ key i → agree rows l i k ≡ false) × ((k : ℕ) → at ≡ Some k → key k ≡ key i))
          → ((k : ℕ) → link_of x ≤ k → k < i → key k ≡ key i → agree rows l i k ≡ false) × ((k : ℕ) → x ≡ Some k → key k ≡ key i)
      go key nexts far = (λ k a b t. cases k a b t (ltb k j) refl (eqb k j) refl, λ k t. link.holds k (sym q ∙ ap link_of t) ∙ far.1 j so)
        where
          link : Last key j (key j) (get_or next j 0)
          link = nexts j seeking-inside

          cases : (k : ℕ) → link_of x ≤ k → k < i → key k ≡ key i → (b : Bool) → ltb k j ≡ b → (c : Bool) → eqb k j ≡ c → agree rows l i k ≡ false
          cases k a b t true u c v = absurd (link.passed k (omega (arith, q)) (ltb-true k j u) (t ∙ sym (far.1 j so)))
          cases k a b t false u true v = rw (eqb-true k j v) (sym e ∙ f)
          cases k a b t false u false v = far.0 k (omega (arith, link-is, ltb-false k j u, eqb-false k j v)) b t

  pub seeking-less : (x : Option ℕ) → link_of x ≡ get_or next j 0 → link_of x < link_of at
  seeking-less x q = omega (arith, s.links j seeking-inside, link-is, q)

  pub seeking-found : {r : Bool} → r ≡ agree rows l i j → r ≡ true → Mate rows l next i head (Some j)
  seeking-found {r} e f =
      record {
        bound = λ p q. let z : j ≡ p = same p q in omega (arith, seeking-inside);
        agrees = λ p q. subst (λ (x : ℕ). agree rows l i x ≡ true) (same p q) (sym e ∙ f);
        none = λ key nexts last z. absurd (let w : ◌≡◌ {A = ℕ} 0 1 = cc in omega arith);
      }
    where
      same : (p : ℕ) → Some j ≡ Some p → j ≡ p
      same p q = cc

pub seeking-done : {rows : List Row} {l next : List ℕ} {i head : ℕ} {at : Option ℕ} → Seeking rows l next i head at → at ≡ None → Mate rows l next i head None
unfolding link_of
seeking-done {rows} {l} {next} {i} {head} {at} s e =
    let end : link_of at ≡ 0 = ap link_of e in
    record {
      bound = λ p q. absurd (let w : ◌≡◌ {A = ℕ} 0 1 = cc in omega arith);
      agrees = λ p q. absurd (let w : ◌≡◌ {A = ℕ} 0 1 = cc in omega arith);
      none = λ key nexts last z j b t. (s.far key nexts last).0 j (omega arith) b t;
    }

-- ---- a row and its mate
pub joined-none : (rows : List Row) (next : List ℕ) (i head : ℕ) (at : Option ℕ) (l : List ℕ) → Mate rows l next i head at → at ≡ None → Joined rows next i head l l
joined-none rows next i head at l m e = record { at = at; mate = m; so = sym (ap (λ (x : Option ℕ). merge_at i x l) e) }

pub joined-mate : (rows : List Row) (next : List ℕ) (i head : ℕ) (at : Option ℕ) (j : ℕ) (l n : List ℕ) → Mate rows l next i head at → at ≡ Some j
    → n ≡ merge i j l → Joined rows next i head l n
joined-mate rows next i head at j l n m q e = record { at = at; mate = m; so = e ∙ sym (ap (λ (x : Option ℕ). merge_at i x l) q) }

-- ---- one row of the pass

module _ {heads next : List ℕ} {i : ℕ} (bounded : Bounded heads next i) where
  pub bounded-links : (j : ℕ) → j < i → get_or next j 0 ≤ j
  bounded-links = bounded.nexts-low

  pub bounded-head : (b x h : ℕ) → b < chains → x ≡ get_or heads b 0 → h ≡ x → h ≤ i
  bounded-head b x h small ex eh = omega (arith, bounded.heads-low b small)

pub visited-now : (rows : List Row) (l m heads next : List ℕ) (i b h : ℕ) → b ≡ key_of rows l i → h ≡ get_or heads b 0 → Joined rows next i h l m
    → Visited rows i l m heads (set heads b (i + 1)) next (set next i (get_or heads b 0))
visited-now rows l m heads next i b h e eh joined =
    record {
      joined = subst (λ (x : ℕ). Joined rows next i x l m) (eh ∙ ap (λ (x : ℕ). get_or heads x 0) e) joined;
      head = ap (λ (x : ℕ). set heads x (i + 1)) e;
      link = ap (λ (x : ℕ). set next i (get_or heads x 0)) e;
    }

-- ---- the pass over the rows

-- the chains of the first n rows
pub record Linked (key : ℕ → ℕ) (heads next : List ℕ) (n : ℕ) : Type 0 where
  pub nexts : Nexts key next n
  pub lasts : (b : ℕ) → b < chains → Last key n b (get_or heads b 0)

linked-start : (key : ℕ → ℕ) → Linked key (replicate chains 0) (replicate most_rows 0) 0
linked-start key =
    record {
      nexts = λ j h. absurd (omega arith);
      lasts = λ b h.
          record {
            bound = omega (arith, get_or-replicate {A = ℕ} chains b 0 0 h);
            passed = λ j a k e. omega arith;
            holds = λ p e. absurd (omega (arith, get_or-replicate {A = ℕ} chains b 0 0 h));
          };
    }

bounded-start : Bounded (replicate chains 0) (replicate most_rows 0) 0
bounded-start =
    record {
      long-heads = refl;
      long-next = refl;
      heads-low = λ b h. omega (arith, get_or-replicate {A = ℕ} chains b 0 0 h);
      nexts-low = λ j h. absurd (omega arith);
    }

module _ {heads next : List ℕ} {n : ℕ} (bounded : Bounded heads next n) (room : n < most_rows) (b : ℕ) (small : b < chains) where
  heads-after : (c : ℕ) → c < chains → ((c ≡ b) × (get_or (set heads b (n + 1)) c 0 ≡ suc n)) ⊎ ((c ≡ b → ⊥) × (get_or (set heads b (n + 1)) c 0 ≡ get_or heads c 0))
  heads-after c h = go (eqb c b) refl
    where
      go : (t : Bool) → eqb c b ≡ t
          → ((c ≡ b) × (get_or (set heads b (n + 1)) c 0 ≡ suc n)) ⊎ ((c ≡ b → ⊥) × (get_or (set heads b (n + 1)) c 0 ≡ get_or heads c 0))
      go true e = inl (eqb-true c b e, rw (eqb-true c b e) (get_or-set_same heads b (n + 1) 0 (omega (arith, bounded.long-heads)) ∙ omega arith))
      go false e = inr (eqb-false c b e, get_or-set_other heads b c (n + 1) 0 (eqb-false c b e))

  next-after : (j : ℕ) → j < n + 1 → ((j ≡ n) × (get_or (set next n (get_or heads b 0)) j 0 ≡ get_or heads b 0)) ⊎ ((j < n) × (get_or (set next n (get_or heads b 0)) j 0 ≡ get_or next j 0))
  next-after j h = go (eqb j n) refl
    where
      go : (t : Bool) → eqb j n ≡ t
          → ((j ≡ n) × (get_or (set next n (get_or heads b 0)) j 0 ≡ get_or heads b 0)) ⊎ ((j < n) × (get_or (set next n (get_or heads b 0)) j 0 ≡ get_or next j 0))
      go true e = inl (eqb-true j n e, rw (eqb-true j n e) (get_or-set_same next n (get_or heads b 0) 0 (omega (arith, bounded.long-next))))
      go false e = inr (omega (arith, eqb-false j n e), get_or-set_other next n j (get_or heads b 0) 0 (eqb-false j n e))

  bounded-next : Bounded (set heads b (n + 1)) (set next n (get_or heads b 0)) (n + 1)
  bounded-next =
      record {
        long-heads = length-set heads b (n + 1) ∙ bounded.long-heads;
        long-next = length-set next n (get_or heads b 0) ∙ bounded.long-next;
        heads-low = λ c h. ⊎_elim (λ w. omega (arith, w.1)) (λ w. omega (arith, w.1, bounded.heads-low c h)) (heads-after c h);
        nexts-low = λ j h. ⊎_elim (λ w. omega (arith, w.0, w.1, bounded.heads-low b small)) (λ w. omega (arith, w.1, bounded.nexts-low j w.0)) (next-after j h);
      }

  linked-next : (key : ℕ → ℕ) → b ≡ key n → Linked key heads next n → Linked key (set heads b (n + 1)) (set next n (get_or heads b 0)) (n + 1)
  linked-next key e k = record { nexts = λ j h. led j (next-after j h); lasts = λ c h. tops c h (heads-after c h) }
    where
      led : (j : ℕ)
          → ((j ≡ n) × (get_or (set next n (get_or heads b 0)) j 0 ≡ get_or heads b 0)) ⊎ ((j < n) × (get_or (set next n (get_or heads b 0)) j 0 ≡ get_or next j 0))
          → Last key j (key j) (get_or (set next n (get_or heads b 0)) j 0)
      led j (inl w) = rw (w.1, w.0) (subst (λ (x : ℕ). Last key n x (get_or heads b 0)) e (k.lasts b small))
      led j (inr w) = rw w.1 (k.nexts j w.0)

      tops : (c : ℕ) → c < chains
          → ((c ≡ b) × (get_or (set heads b (n + 1)) c 0 ≡ suc n)) ⊎ ((c ≡ b → ⊥) × (get_or (set heads b (n + 1)) c 0 ≡ get_or heads c 0))
          → Last key (n + 1) c (get_or (set heads b (n + 1)) c 0)
      tops c h (inl w) =
          record {
            bound = omega (arith, w.1);
            passed = λ j a l q. absurd (omega (arith, w.1));
            holds = λ p q. let z : p ≡ n = omega (arith, w.1) in ap key z ∙ sym e ∙ sym w.0;
          }
      tops c h (inr w) =
          let old : Last key n c (get_or heads c 0) = k.lasts c h in
          record {
            bound = omega (arith, w.1, old.bound);
            passed = λ j a l q. later j (omega (arith, w.1)) l q (eqb j n) refl;
            holds = λ p q. old.holds p (sym w.1 ∙ q);
          }
        where
          later : (j : ℕ) → get_or heads c 0 ≤ j → j < n + 1 → key j ≡ c → (t : Bool) → eqb j n ≡ t → ⊥
          later j a l q true u = w.0 (sym q ∙ ap key (eqb-true j n u) ∙ sym e)
          later j a l q false u = (k.lasts c h).passed j a (omega (arith, eqb-false j n u)) q

module _ (rows : List Row) (l next : List ℕ) (i head : ℕ) (at : Option ℕ) (mate : Mate rows l next i head at) (last : Last (key_of rows l) i (key_of rows l i) head)
    (nexts : Nexts (key_of rows l) next i) (alike : Alike rows i l) (one : (p : ℕ) → at ≡ Some p → rep_at l i ≡ rep_at l p) where
  -- row i and an earlier row that agrees with it have one representative
  alike-mate : (j : ℕ) → j < i → SameAt rows l i j → rep_at l i ≡ rep_at l j
  alike-mate j h s = go at refl
    where
      go : (a : Option ℕ) → at ≡ a → rep_at l i ≡ rep_at l j
      go None e = false-true (same-agree rows l i j s) (mate.none (key_of rows l) nexts last e j h (same_key_lem rows l i j s))
      go (Some p) e =
          let w : SameAt rows l i p = agree-true rows l i p (mate.agrees p e) in
          one p e ∙ alike p j (mate.bound p e) h (sym w.0 ∙ s.0) (sym w.1 ∙ s.1)

  alike_next : Alike rows (i + 1) l
  alike_next a b ha hb e f = go (eqb a i) refl (eqb b i) refl
    where
      go : (x : Bool) → eqb a i ≡ x → (y : Bool) → eqb b i ≡ y → rep_at l a ≡ rep_at l b
      go true p true q = ap (rep_at l) (eqb-true a i p ∙ sym (eqb-true b i q))
      go true p false q =
          let z : a ≡ i = eqb-true a i p in
          ap (rep_at l) z ∙ alike-mate b (omega (arith, eqb-false b i q)) (subst (λ (x : ℕ). SameAt rows l x b) z (e, f))
      go false p true q =
          let z : b ≡ i = eqb-true b i q in
          sym (ap (rep_at l) z ∙ alike-mate a (omega (arith, eqb-false a i p)) (subst (λ (x : ℕ). SameAt rows l x a) z (sym e, sym f)))
      go false p false q = alike a b (omega (arith, eqb-false a i p)) (omega (arith, eqb-false b i q)) e f

-- the first i rows are done, of those of l
pub record Passing (run : List ℕ) (n : ℕ) (l t heads next : List ℕ) (i : ℕ) : Type 0 where
  pub count : n ≡ row_count run
  pub room : n ≤ most_rows
  pub reach : i ≤ n
  pub stays : length t ≡ length l
  pub bounded : Bounded heads next i
  pub far : (eqs : List (ℕ × ℕ)) → Ordered (rows_of run) → Kept (rows_of run) eqs l
      → Outcome (rows_of run) eqs
      (Alike (rows_of run) i l × Linked (key_of (rows_of run) l) heads next i) l t

pub passing-start : (run : List ℕ) (n : ℕ) (l heads next : List ℕ) → n ≡ row_count run → Laid run → heads ≡ replicate chains 0 → next ≡ replicate most_rows 0
    → Passing run n l l heads next 0
passing-start run n l heads next e laid eh en =
    rw (eh, en)
    (record {
      count = e;
      room = omega (arith, laid.room);
      reach = omega arith;
      stays = refl;
      bounded = bounded-start;
      far = λ eqs ordered kept. outcome-none _ eqs kept (λ i j hi. absurd (omega arith), linked-start _);
    })

module _ {run : List ℕ} {n : ℕ} {l t heads next : List ℕ} {i : ℕ} (s : Passing run n l t heads next i) where
  passing-joined : (b h : ℕ) (u : List ℕ) → i < n → length u ≡ length t → b ≡ key_of (rows_of run) t i → h ≡ get_or heads b 0
      → Joined (rows_of run) next i h t u → Passing run n l u (set heads b (i + 1)) (set next i (get_or heads b 0)) (i + 1)
  passing-joined b h u more z e eh joined =
      record {
        count = s.count;
        room = s.room;
        reach = omega arith;
        stays = z ∙ s.stays;
        bounded = bounded-next s.bounded (omega (arith, s.room)) b small;
        far = λ eqs ordered kept. after eqs ordered (s.far eqs ordered kept);
      }
    where
      small : b < chains
      small = omega (arith, key_below (rows_of run) t i)

      R : List Row
      R = rows_of run

      inside : i < length R
      inside = omega (arith, length-rows run, s.count)

      -- what one row does to the table as it is
      row : (eqs : List (ℕ × ℕ)) → Ordered R → Kept R eqs t → Outcome R eqs ((p : ℕ) → joined.at ≡ Some p → rep_at t i ≡ rep_at t p) t u
      row eqs ordered kept = rw joined.so (go joined.at refl)
        where
          go : (a : Option ℕ) → joined.at ≡ a → Outcome R eqs ((p : ℕ) → joined.at ≡ Some p → rep_at t i ≡ rep_at t p) t (merge_at i joined.at t)
          go None y = rw y (outcome-none R eqs kept (λ p q. absurd (let z : ◌≡◌ {A = ℕ} 0 1 = cc in omega arith)))
          go (Some p) y =
              let w : SameAt R t i p = agree-true R t i p (joined.mate.agrees p y) in
              let hp : p < length R = omega (arith, joined.mate.bound p y, inside) in
              let o : Outcome R eqs (rep_at t i ≡ rep_at t p) t (merge i p t) =
              merge-outcome R eqs t kept i p inside hp (agree-equal R eqs ordered (rep_at t) kept.so i p inside hp w.0 w.1) in
              rw y
              (record { kept = o.kept; grown = o.grown; did = ⊎_elim (λ d. inl (d.0, λ q x. let z : p ≡ q = cc in d.1 ∙ ap (rep_at t) z)) (λ d. inr d) o.did })

      after : (eqs : List (ℕ × ℕ)) → Ordered R → Outcome R eqs (Alike R i l × Linked (key_of R l) heads next i) l t
          → Outcome R eqs (Alike R (i + 1) l × Linked (key_of R l) (set heads b (i + 1)) (set next i (get_or heads b 0)) (i + 1)) l u
      after eqs ordered o = outcome-then R eqs o (row eqs ordered o.kept) close
        where
          close : t ≡ l → Alike R i l × Linked (key_of R l) heads next i → ((p : ℕ) → joined.at ≡ Some p → rep_at t i ≡ rep_at t p)
              → Alike R (i + 1) l × Linked (key_of R l) (set heads b (i + 1)) (set next i (get_or heads b 0)) (i + 1)
          close same old one =
              let k : b ≡ key_of R l i = e ∙ ap (λ (x : List ℕ). key_of R x i) same in
              let last : Last (key_of R l) i (key_of R l i) h = rw (eh, ← k) (old.1.lasts b small) in (
                alike_next R l next i h joined.at (subst (λ (x : List ℕ). Mate R x next i h joined.at) same joined.mate) last old.1.nexts old.0
                    (subst (λ (x : List ℕ). (p : ℕ) → joined.at ≡ Some p → rep_at x i ≡ rep_at x p) same one),
                linked-next s.bounded (omega (arith, s.room)) b small (key_of R l) k old.1,
              )

  pub passing-next : (u heads' next' : List ℕ) → i < n → length u ≡ length t → Visited (rows_of run) i t u heads heads' next next'
      → Passing run n l u heads' next' (i + 1)
  passing-next u heads' next' more z v =
      rw (v.head, v.link) (passing-joined (key_of (rows_of run) t i) (get_or heads (key_of (rows_of run) t i) 0) u more z refl refl v.joined)

  pub passing-done : n ≤ i → Passed (rows_of run) l t
  passing-done h = record { outcome = λ eqs ordered kept. last eqs (s.far eqs ordered kept) }
    where
      R : List Row
      R = rows_of run

      last : (eqs : List (ℕ × ℕ)) → Outcome R eqs (Alike R i l × Linked (key_of R l) heads next i) l t → Outcome R eqs (Alike R (length R) l) l t
      last eqs o =
          let e : i ≡ length R = omega (arith, s.reach, s.count, length-rows run) in
          record { kept = o.kept; grown = o.grown; did = ⊎_elim (λ d. inl (d.0, subst (λ (x : ℕ). Alike R x l) e d.1.0)) (λ d. inr d) o.did }

pub ruleset mine = (
  rules,
  seeking-start,
  seeking-inside,
  seeking-next,
  seeking-less,
  seeking-found,
  seeking-done,
  joined-none,
  joined-mate,
  bounded-links,
  bounded-head,
  visited-now,
  passing-start,
  passing-next,
  passing-done,
)
