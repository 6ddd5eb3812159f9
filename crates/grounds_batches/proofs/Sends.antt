-- Steps of a draft that are sent, one after the other, behind steps that were sent before.
--     Shown                      a step that was sent has the owner and the sides of one of a draft
--     renamed                    a step with new numbers for what it cites
--     named                      whether a step of a draft has an owner and a new number
--     Closed                     what a step that stays cites stays
--     Sending                    after so many steps of the draft: the steps sent follow, and show what the draft's do; why each was sent
--     sending-start, sending-skip, sending-send   before the first; a step that is not sent, and one that is
--     cites-new                  what a draft's step cites has a new number
-- Assumes nothing.
use mathlib.Core.Bool.{Bool, true, false, ◌&&◌}
use mathlib.Core.List.{List, [], ◌∷◌, ◌++◌, map}
use mathlib.Core.Path.{◌≡◌, refl, ap, sym, ◌∙◌, subst}
use mathlib.Core.Logic.{◌⊎◌, inl, inr, ⊎_elim}
use Prim.Native.Nat.{ℕ, zero, suc, ◌+◌, ◌≤◌, ◌<◌}
use native.Mathlib.Omega.{arith}
use lib.Dec.{eqb, ltb}
use borrow.Author.Tests.{eqb-true, eqb-false, eq-eqb, ne_eqb, lt-ltb, le-ltb}
use lib.ListN.{length, get_or, set, take, length-set, length-take, get_or-append, get_or-map}
use lib.Seq.{get_or-take, get_or-set_same, get_or-set_other, get_or-append_seam, take-length, take-append-le}
use Rattle.meaning.specs.Context.{Term, Terms, Context, equations}
use Rattle.meaning.specs.Rules.{Clause}
use Rattle.meaning.specs.Grounds.{Step, step₀, step_at, number_in, PairAt, Cites, CitesEach, each-stop, each_more, Derives, by-statement, by-reflexivity, by-symmetry, by-transitivity, by-congruence, by-addition, Follows}
use Rattle.meaning.proofs.Lists.{length-snoc}
use Rattle.grounds_laws.proofs.Drafts.{Follow, follow-snoc}
use Rattle.grounds_batches.specs.Marking.{kept}
use Rattle.grounds_batches.specs.Sending.{new_of}
use Rattle.grounds_batches.specs.Drawing.{owned_by}
use Rattle.grounds_batches.proofs.Owned.{owned-more, owned-same, passing, passing-true, passing-false, passing-alike, passing-pace}

-- ---- new numbers

pub positive : (n : ℕ) → (n ≡ 0 → ⊥) → (q : ℕ) × (n ≡ suc q)
positive zero h = absurd (h refl)
positive (suc n) h = (n, refl)

pub new-at : (news : List ℕ) (p : ℕ) → new_of news (suc p) ≡ get_or news (suc p) 0
unfolding new_of
new-at news p = rw (ne_eqb (suc p) 0 (λ z. omega arith), new_of)

pub new_none : (news : List ℕ) → new_of news 0 ≡ 0
unfolding new_of
new_none news = refl

-- kinds 1 and 2 cite no step
unfoldable pub renamed : (ℕ → ℕ) → Step → Step
renamed f s =
    record {
      owner = s.owner;
      kind = s.kind;
      left = s.left;
      right = s.right;
      numbers = elim (ltb 2 s.kind) [ true ↦ map f s.numbers | false ↦ s.numbers ];
    }

pub renamed-cites : (f : ℕ → ℕ) (s : Step) → 2 < s.kind → (renamed f s).numbers ≡ map f s.numbers
unfolding renamed
renamed-cites f s h = ap (λ (b : Bool). elim b [ true ↦ map f s.numbers | false ↦ s.numbers ]) (lt-ltb 2 s.kind h)

pub renamed-plain : (f : ℕ → ℕ) (s : Step) → s.kind ≤ 2 → (renamed f s).numbers ≡ s.numbers
unfolding renamed
renamed-plain f s h = ap (λ (b : Bool). elim b [ true ↦ map f s.numbers | false ↦ s.numbers ]) (le-ltb 2 s.kind h)

-- ---- steps that show what others do

pub record Shown (steps : List Step) (q : ℕ) (s : Step) : Type 0 where
  pub inside : q < length steps
  pub owner : (step_at steps q).owner ≡ s.owner
  pub left : (step_at steps q).left ≡ s.left
  pub right : (step_at steps q).right ≡ s.right

shown-snoc : {steps : List Step} {q : ℕ} {s : Step} (z : Step) → Shown steps q s → Shown (steps ++ (z ∷ [])) q s
shown-snoc {steps} {q} z w =
    let e : step_at (steps ++ (z ∷ [])) q ≡ step_at steps q = get_or-append steps (z ∷ []) step₀ q w.inside in
    record { inside = omega (arith, length-snoc steps z, w.inside); owner = rw e w.owner; left = rw e w.left; right = rw e w.right }

shown-last : (steps : List Step) (f : ℕ → ℕ) (s : Step) → Shown (steps ++ (renamed f s ∷ [])) (length steps) s
unfolding renamed
shown-last steps f s =
    let e : step_at (steps ++ (renamed f s ∷ [])) (length steps) ≡ renamed f s = get_or-append_seam steps (renamed f s) [] step₀ in
    record { inside = omega (arith, length-snoc steps (renamed f s)); owner = rw e; left = rw e; right = rw e }

-- step p of a draft, counted from 0
unfoldable pub named : List Step → ℕ → List ℕ → ℕ → Bool
named draft o news p = eqb (step_at draft p).owner o && kept news (suc p)

named-kept : (draft : List Step) (o : ℕ) (news : List ℕ) (p : ℕ) → named draft o news p ≡ true → ((step_at draft p).owner ≡ o) × (get_or news (suc p) 0 ≡ 0 → ⊥)
unfolding named kept
named-kept draft o news p e = go (eqb (step_at draft p).owner o) refl (eqb (get_or news (suc p) 0) 0) refl
  where
    go : (b : Bool) → eqb (step_at draft p).owner o ≡ b → (d : Bool) → eqb (get_or news (suc p) 0) 0 ≡ d
        → ((step_at draft p).owner ≡ o) × (get_or news (suc p) 0 ≡ 0 → ⊥)
    go true q false f = (eqb-true (step_at draft p).owner o q, eqb-false (get_or news (suc p) 0) 0 f)
    go true q true f = absurd (let z : true ≡ false = sym e ∙ rw (q, f) in let y : ◌≡◌ {A = ℕ} 0 1 = cc in omega arith)
    go false q d f = absurd (let z : true ≡ false = sym e ∙ rw q in let y : ◌≡◌ {A = ℕ} 0 1 = cc in omega arith)

named-is : (draft : List Step) (o : ℕ) (news : List ℕ) (p : ℕ) → (step_at draft p).owner ≡ o → (get_or news (suc p) 0 ≡ 0 → ⊥) → named draft o news p ≡ true
unfolding named kept
named-is draft o news p e d = rw (eq-eqb (step_at draft p).owner o e, ne_eqb (get_or news (suc p) 0) 0 d)

pub named-alike : (draft other : List Step) (o : ℕ) (news olds : List ℕ) (p : ℕ) → step_at draft p ≡ step_at other p → get_or news (suc p) 0 ≡ get_or olds (suc p) 0
    → named draft o news p ≡ named other o olds p
unfolding named kept
named-alike draft other o news olds p d e = rw (d, e)

-- no number, or another owner
pub named_none : (draft : List Step) (o : ℕ) (news : List ℕ) (p : ℕ) → (((step_at draft p).owner ≡ o) → (get_or news (suc p) 0 ≡ 0 → ⊥) → ⊥) → named draft o news p ≡ false
named_none draft o news p d = go (named draft o news p) refl
  where
    go : (b : Bool) → named draft o news p ≡ b → named draft o news p ≡ false
    go true e = absurd (d (named-kept draft o news p e).0 (named-kept draft o news p e).1)
    go false e = e

module _ (c : Context) (k : Clause) (a : List ℕ) (draft : List Step) where
  -- new numbers are those of steps that show what the draft's do
  abbrev pub ShowsAll : List ℕ → List Step → Type 0
  ShowsAll news steps = (p q : ℕ) → get_or news (suc p) 0 ≡ suc q → Shown steps q (step_at draft p)

  pub cites-new : (news : List ℕ) (steps : List Step) → ShowsAll news steps → (m : ℕ) → m ≤ length draft → {o x : ℕ} {t u : Term} → Cites c k a (take m draft) o x t u
      → (get_or news x 0 ≡ 0 → ⊥)
      → Cites c k a steps o (new_of news x) t u
  cites-new news steps shows m h {o} {x} w e =
      let l : w.place < m = omega (arith, w.inside, length-take m draft) in
      let q : (y : ℕ) × (get_or news x 0 ≡ suc y) = positive (get_or news x 0) e in
      let n : get_or news (suc w.place) 0 ≡ suc q.0 = ap (λ (i : ℕ). get_or news i 0) (sym w.counted) ∙ q.1 in
      let s : Shown steps q.0 (step_at draft w.place) = shows w.place q.0 n in
      let z : step_at (take m draft) w.place ≡ step_at draft w.place = get_or-take m draft w.place step₀ l in
      record {
        place = q.0;
        counted = ap (new_of news) w.counted ∙ new-at news w.place ∙ n;
        inside = s.inside;
        usable = rw (s.owner, sym z) w.usable;
        left = rw (s.left, sym z) w.left;
        right = rw (s.right, sym z) w.right;
      }

  module _ (keep : ℕ → Bool) where
    -- and stands before it
    pub record Closed : Type 0 where
      pub stays : (i : ℕ) → i < length draft → keep (suc i) ≡ true → 2 < (step_at draft i).kind → (j p : ℕ) → number_in (step_at draft i) j ≡ suc p → p < i → keep (suc p) ≡ true

    -- ---- a step with new numbers follows

    module _ (news : List ℕ) (steps : List Step) (shows : ShowsAll news steps) (closed : Closed) (n : ℕ) (h : n < length draft) (stays : keep (suc n) ≡ true)
        (done : (p : ℕ) → p < n → keep (suc p) ≡ true → get_or news (suc p) 0 ≡ 0 → ⊥) where
      abbrev s : Step
      s = step_at draft n

      abbrev now : Step
      now = renamed (new_of news) s

      number-now : 2 < s.kind → (j : ℕ) → number_in now j ≡ new_of news (number_in s j)
      number-now l j =
          ap (λ (xs : List ℕ). get_or xs j 0) (renamed-cites (new_of news) s l)
          ∙ subst (λ (d : ℕ). get_or (map (new_of news) s.numbers) j d ≡ new_of news (number_in s j)) (new_none news) (get_or-map (new_of news) s.numbers j 0)

      cited : {o x : ℕ} {t u : Term} → ((p : ℕ) → x ≡ suc p → p < n → keep (suc p) ≡ true) → Cites c k a (take n draft) o x t u
          → Cites c k a steps o (new_of news x) t u
      cited {x = x} f w =
          let l : w.place < n = omega (arith, w.inside, length-take n draft) in
          cites-new news steps shows n (omega arith) w (λ z. done w.place l (f w.place w.counted l) (ap (λ (i : ℕ). get_or news i 0) (sym w.counted) ∙ z))

      cited-now : 2 < s.kind → (j : ℕ) {o : ℕ} {t u : Term} → Cites c k a (take n draft) o (number_in s j) t u → Cites c k a steps o (number_in now j) t u
      cited-now l j w = rw (number-now l j) (cited (λ p e b. closed.stays n h stays l j p e b) w)

      each-now : (o : ℕ) (xs : List ℕ) → ((j p : ℕ) → get_or xs j 0 ≡ suc p → p < n → keep (suc p) ≡ true) → {ts us : Terms}
          → CitesEach c k a (take n draft) o xs ts us
          → CitesEach c k a steps o (map (new_of news) xs) ts us
      each-now o xs f each-stop = each-stop
      each-now o (x ∷ xs) f (each_more w ws) = each_more (cited (f 0) w) (each-now o xs (λ j p e l. f (suc j) p e l) ws)

      derives-now : (t u : Term) → Derives c k a (take n draft) s t u → Derives c k a steps now t u
      unfolding renamed
      derives-now t u (by-statement e w) =
          by-statement e (subst (λ (xs : List ℕ). PairAt c.rows (equations c) (get_or xs 0 0) t u) (sym (renamed-plain (new_of news) s (omega arith))) w)
      derives-now t u (by-reflexivity e w) = by-reflexivity e w
      derives-now t u (by-symmetry e w) = by-symmetry e (cited-now (omega arith) 0 w)
      derives-now t u (by-transitivity e m v w) = by-transitivity e m (cited-now (omega arith) 0 v) (cited-now (omega arith) 1 w)
      derives-now t u (by-congruence e f ts us p q w) =
          by-congruence e f ts us p q
          (subst (λ (xs : List ℕ). CitesEach c k a steps s.owner xs ts us) (sym (renamed-cites (new_of news) s (omega arith)))
          (each-now s.owner s.numbers (λ j i x l. closed.stays n h stays (omega arith) j i x l) w))
      derives-now t u (by-addition e w) = by-addition e w

      follows-now : Follows c k a (take n draft) s → Follows c k a steps now
      unfolding renamed
      follows-now w =
          record {
            owner = w.owner;
            left_term = w.left_term;
            right_term = w.right_term;
            left = w.left;
            right = w.right;
            derives = derives-now w.left_term w.right_term w.derives;
          }

    -- ---- all steps

    -- from these new numbers and steps
    module _ (news₀ : List ℕ) (steps₀ : List Step) where
      -- after the first m steps of the draft; step p of it is sent where it stays and had no new number
      pub record Sending (m : ℕ) (news : List ℕ) (steps : List Step) : Type 0 where
        pub size : length news ≡ length news₀
        pub least : length steps₀ ≤ length steps
        pub most : length steps ≤ length steps₀ + m
        pub first : take (length steps₀) steps ≡ steps₀
        pub follow : Follow c k a steps
        pub shown : ShowsAll news steps
        pub done : (p : ℕ) → p < m → keep (suc p) ≡ true → get_or news (suc p) 0 ≡ 0 → ⊥
        pub later : (p : ℕ) → m ≤ p → get_or news (suc p) 0 ≡ get_or news₀ (suc p) 0
        pub old : (p q : ℕ) → get_or news₀ (suc p) 0 ≡ suc q → get_or news (suc p) 0 ≡ suc q
        pub only : (p q : ℕ) → get_or news₀ (suc p) 0 ≡ 0 → get_or news (suc p) 0 ≡ suc q → (p < m) × (keep (suc p) ≡ true)
        pub origin : (q : ℕ) → length steps₀ ≤ q → q < length steps → (p : ℕ) × (get_or news₀ (suc p) 0 ≡ 0) × (get_or news (suc p) 0 ≡ suc q)
        pub owned : (o : ℕ) → owned_by o steps + passing (named draft o news₀) m ≤ owned_by o steps₀ + passing (named draft o news) m
        pub cites : (p q : ℕ) → get_or news₀ (suc p) 0 ≡ 0 → get_or news (suc p) 0 ≡ suc q → 2 < (step_at draft p).kind
            → (2 < (step_at steps q).kind)
            × ((j r v : ℕ) → number_in (step_at draft p) j ≡ suc r → r < p → get_or news (suc r) 0 ≡ suc v → (number_in (step_at steps q) j ≡ suc v) × (v < q))

      pub sending-start : Follow c k a steps₀ → ShowsAll news₀ steps₀ → Sending 0 news₀ steps₀
      unfolding passing
      sending-start follow shows =
          record {
            size = refl;
            least = omega arith;
            most = omega arith;
            first = take-length steps₀;
            follow = follow;
            shown = shows;
            done = λ p h e z. absurd (omega arith);
            later = λ p h. refl;
            old = λ p q e. e;
            only = λ p q e f. absurd (omega (arith, e, f));
            origin = λ q h l. absurd (omega arith);
            owned = λ o. omega arith;
            cites = λ p q e f l. absurd (omega (arith, e, f));
          }

      pub sending-skip : (m : ℕ) (news : List ℕ) (steps : List Step) → Sending m news steps → (keep (suc m) ≡ true → get_or news (suc m) 0 ≡ 0 → ⊥) → Sending (suc m) news steps
      sending-skip m news steps w skip =
          record {
            size = w.size;
            least = w.least;
            most = omega (arith, w.most);
            first = w.first;
            follow = w.follow;
            shown = w.shown;
            done = λ p h. done p h (eqb p m) refl;
            later = λ p h. w.later p (omega arith);
            old = w.old;
            only = λ p q e f. (omega (arith, (w.only p q e f).0), (w.only p q e f).1);
            origin = w.origin;
            owned = λ o.
                passing-pace (named draft o news) (named draft o news₀) m (owned_by o steps) (owned_by o steps₀) (w.owned o)
                (λ e. named-is draft o news m (named-kept draft o news₀ m e).0 (keeps (named-kept draft o news₀ m e).1));
            cites = w.cites;
          }
        where
          -- a number stays
          keeps : (get_or news₀ (suc m) 0 ≡ 0 → ⊥) → get_or news (suc m) 0 ≡ 0 → ⊥
          keeps d = let q : (x : ℕ) × (get_or news₀ (suc m) 0 ≡ suc x) = positive (get_or news₀ (suc m) 0) d in λ z. omega (arith, w.old m q.0 q.1)

          done : (p : ℕ) → p < suc m → (b : Bool) → eqb p m ≡ b → keep (suc p) ≡ true → get_or news (suc p) 0 ≡ 0 → ⊥
          done p h true e = subst (λ (i : ℕ). keep (suc i) ≡ true → get_or news (suc i) 0 ≡ 0 → ⊥) (sym (eqb-true p m e)) skip
          done p h false e = w.done p (omega (arith, eqb-false p m e))

      module _ (closed : Closed) (fits : length draft < length news₀) (m : ℕ) (h : m < length draft) (news : List ℕ) (steps : List Step) (w : Sending m news steps)
          (stays : keep (suc m) ≡ true) (none : get_or news (suc m) 0 ≡ 0) where
        abbrev new : List ℕ
        new = set news (suc m) (suc (length steps))

        abbrev z : Step
        z = renamed (new_of news) (step_at draft m)

        abbrev more : List Step
        more = steps ++ (z ∷ [])

        here : get_or new (suc m) 0 ≡ suc (length steps)
        here = get_or-set_same news (suc m) (suc (length steps)) 0 (omega (arith, w.size))

        other : (p : ℕ) → (p ≡ m → ⊥) → get_or new (suc p) 0 ≡ get_or news (suc p) 0
        other p d = get_or-set_other news (suc m) (suc p) (suc (length steps)) 0 (λ e. d (omega arith))

        long : length more ≡ suc (length steps)
        long = length-snoc steps z

        apart : (p : ℕ) → (p ≡ m) ⊎ (p ≡ m → ⊥)
        apart p = go (eqb p m) refl
          where
            go : (b : Bool) → eqb p m ≡ b → (p ≡ m) ⊎ (p ≡ m → ⊥)
            go true e = inl (eqb-true p m e)
            go false e = inr (eqb-false p m e)

        -- step p is the new one, or was sent before
        sorted : (p q : ℕ) → get_or new (suc p) 0 ≡ suc q → ((p ≡ m) × (q ≡ length steps)) ⊎ ((p ≡ m → ⊥) × (get_or news (suc p) 0 ≡ suc q))
        sorted p q e =
            ⊎_elim (λ d. inl (d, omega (arith, here, ap (λ (i : ℕ). get_or new (suc i) 0) (sym d) ∙ e))) (λ d. inr (d, sym (other p d) ∙ e)) (apart p)

        shown : ShowsAll new more
        shown p q e = go (sorted p q e)
          where
            go : ((p ≡ m) × (q ≡ length steps)) ⊎ ((p ≡ m → ⊥) × (get_or news (suc p) 0 ≡ suc q)) → Shown more q (step_at draft p)
            go (inl d) = rw (d.0, d.1) (shown-last steps (new_of news) (step_at draft m))
            go (inr d) = shown-snoc z (w.shown p q d.1)

        done : (p : ℕ) → p < suc m → keep (suc p) ≡ true → get_or new (suc p) 0 ≡ 0 → ⊥
        done p l e f = go (apart p)
          where
            go : (p ≡ m) ⊎ (p ≡ m → ⊥) → ⊥
            go (inl d) = let x : get_or new (suc m) 0 ≡ 0 = ap (λ (i : ℕ). get_or new (suc i) 0) (sym d) ∙ f in omega (arith, here)
            go (inr d) = w.done p (le d) e (sym (other p d) ∙ f)
              where
                le : (p ≡ m → ⊥) → p < m
                le d = omega (arith, d)

        old : (p q : ℕ) → get_or news₀ (suc p) 0 ≡ suc q → get_or new (suc p) 0 ≡ suc q
        old p q e = go (apart p)
          where
            go : (p ≡ m) ⊎ (p ≡ m → ⊥) → get_or new (suc p) 0 ≡ suc q
            go (inl d) = absurd (omega (arith, none, w.later m (omega arith), ap (λ (i : ℕ). get_or news₀ (suc i) 0) (sym d) ∙ e))
            go (inr d) = other p d ∙ w.old p q e

        only : (p q : ℕ) → get_or news₀ (suc p) 0 ≡ 0 → get_or new (suc p) 0 ≡ suc q → (p < suc m) × (keep (suc p) ≡ true)
        only p q e f = go (sorted p q f)
          where
            go : ((p ≡ m) × (q ≡ length steps)) ⊎ ((p ≡ m → ⊥) × (get_or news (suc p) 0 ≡ suc q)) → (p < suc m) × (keep (suc p) ≡ true)
            go (inl d) = (omega (arith, d.0), ap (λ (i : ℕ). keep (suc i)) d.0 ∙ stays)
            go (inr d) = (omega (arith, (w.only p q e d.1).0), (w.only p q e d.1).1)

        origin : (q : ℕ) → length steps₀ ≤ q → q < length more → (p : ℕ) × (get_or news₀ (suc p) 0 ≡ 0) × (get_or new (suc p) 0 ≡ suc q)
        origin q b l = go (eqb q (length steps)) refl
          where
            go : (d : Bool) → eqb q (length steps) ≡ d → (p : ℕ) × (get_or news₀ (suc p) 0 ≡ 0) × (get_or new (suc p) 0 ≡ suc q)
            go true e = (m, sym (w.later m (omega arith)) ∙ none, here ∙ ap suc (sym (eqb-true q (length steps) e)))
            go false e = (o.0, o.1, other o.0 (λ d. omega (arith, o.2, ap (λ (i : ℕ). get_or news (suc i) 0) d, none)) ∙ o.2)
              where
                o : (p : ℕ) × (get_or news₀ (suc p) 0 ≡ 0) × (get_or news (suc p) 0 ≡ suc q)
                o = w.origin q b (omega (arith, eqb-false q (length steps) e, long))

        cites : (p q : ℕ) → get_or news₀ (suc p) 0 ≡ 0 → get_or new (suc p) 0 ≡ suc q → 2 < (step_at draft p).kind
            → (2 < (step_at more q).kind)
            × ((j r v : ℕ) → number_in (step_at draft p) j ≡ suc r → r < p → get_or new (suc r) 0 ≡ suc v → (number_in (step_at more q) j ≡ suc v) × (v < q))
        unfolding renamed
        cites p q e f l = go (sorted p q f)
          where
            go : ((p ≡ m) × (q ≡ length steps)) ⊎ ((p ≡ m → ⊥) × (get_or news (suc p) 0 ≡ suc q))
                → (2 < (step_at more q).kind)
                × ((j r v : ℕ) → number_in (step_at draft p) j ≡ suc r → r < p → get_or new (suc r) 0 ≡ suc v → (number_in (step_at more q) j ≡ suc v) × (v < q))
            go (inl d) =
                rw (d.1, get_or-append_seam steps z [] step₀) (
                  subst (λ (i : ℕ). 2 < (step_at draft i).kind) d.0 l,
                  λ j r v n b g.
                      let x : get_or news (suc r) 0 ≡ suc v = sym (other r (λ y. omega (arith, d.0))) ∙ g in (
                        number-now news steps w.shown closed m h stays w.done (subst (λ (i : ℕ). 2 < (step_at draft i).kind) d.0 l) j
                            ∙ ap (new_of news) (subst (λ (i : ℕ). number_in (step_at draft i) j ≡ suc r) d.0 n)
                            ∙ new-at news r
                            ∙ x,
                        (w.shown r v x).inside,
                      ),
                )
            go (inr d) =
                let b : q < length steps = (w.shown p q d.1).inside in
                let y : p < m = (w.only p q e d.1).0 in
                rw (get_or-append steps (z ∷ []) step₀ q b) (
                  (w.cites p q e d.1 l).0,
                  λ j r v n s g. (w.cites p q e d.1 l).1 j r v n s (sym (other r (λ x. omega arith)) ∙ g),
                )

        owned : (o : ℕ) → owned_by o more + passing (named draft o news₀) (suc m) ≤ owned_by o steps₀ + passing (named draft o new) (suc m)
        unfolding renamed
        owned o = go (eqb (step_at draft m).owner o) refl
          where
            earlier : passing (named draft o new) m ≡ passing (named draft o news) m
            earlier = passing-alike (named draft o new) (named draft o news) m (λ p l. named-alike draft draft o new news p refl (other p (λ e. omega arith)))

            before : passing (named draft o news₀) (suc m) ≡ passing (named draft o news₀) m
            before = passing-false (named draft o news₀) m (named_none draft o news₀ m (λ e d. d (sym (w.later m (omega arith)) ∙ none)))

            go : (b : Bool) → eqb (step_at draft m).owner o ≡ b
                → owned_by o more + passing (named draft o news₀) (suc m) ≤ owned_by o steps₀ + passing (named draft o new) (suc m)
            go true e =
                let q : (step_at draft m).owner ≡ o = eqb-true (step_at draft m).owner o e in
                omega (arith, owned-more o steps z q, before, earlier, w.owned o, passing-true (named draft o new) m (named-is draft o new m q (λ f. omega (arith, here))))
            go false e =
                let d : (step_at draft m).owner ≡ o → ⊥ = eqb-false (step_at draft m).owner o e in
                omega (arith, owned-same o steps z d, before, earlier, w.owned o, passing-false (named draft o new) m (named_none draft o new m (λ q f. d q)))

        pub sending-send : Follows c k a (take m draft) (step_at draft m) → Sending (suc m) new more
        sending-send f =
            record {
              size = length-set news (suc m) (suc (length steps)) ∙ w.size;
              least = omega (arith, long, w.least);
              most = omega (arith, long, w.most);
              first = take-append-le (length steps₀) steps (z ∷ []) w.least ∙ w.first;
              follow = follow-snoc c k a steps z w.follow (follows-now news steps w.shown closed m h stays w.done f);
              shown = shown;
              done = done;
              later = λ p l. other p (λ e. omega arith) ∙ w.later p (omega arith);
              old = old;
              only = only;
              origin = origin;
              owned = owned;
              cites = cites;
            }
