-- The words that are written hold the steps that are sent.
--     step-word       a step in three words
--     steps_of-snoc    the words of one step more are one step more
--     Emitting        after so many steps of a column: the steps in the words are those sent, and every later place is as before
--     emitted-all     after all steps
-- Assumes nothing.
use mathlib.Core.Bool.{Bool, true, false}
use mathlib.Core.List.{List, [], ◌∷◌, ◌++◌, map-append}
use mathlib.Core.Path.{◌≡◌, refl, ap, ap₂, sym, ◌∙◌, subst, subst₂}
use Prim.Native.Nat.{ℕ, zero, suc, ◌+◌, ◌/◌, ◌%◌, ◌≤◌, ◌<◌}
use native.Mathlib.Omega.{arith}
use lib.Dec.{eqb, ltb}
use borrow.Author.Tests.{eqb-true, eqb-false, lt-ltb, le-ltb, ltb-true, ltb-false}
use lib.ListN.{length, get_or, set, take, drop, length-set}
use lib.Seq.{take-suc-set, drop-set-lt, drop-drop}
use Rattle.meaning.specs.Context.{Context}
use Rattle.meaning.specs.Rules.{Clause}
use Rattle.meaning.specs.Grounds.{Ref, Step, step_at, Stands, for-row, for-instance, Derives, by-statement, by-reflexivity, by-symmetry, by-transitivity, by-congruence, by-addition, Follows}
use Rattle.meaning.specs.GroundColumns.{step_from}
use Rattle.runs.specs.Limits.{most_rows, most_patterns}
use Rattle.grounds_steps.specs.Steps.{step_of as words_step, words_of, steps_of}
use Rattle.meaning.proofs.Lists.{length-snoc}
use Rattle.grounds_laws.specs.Draft.{ref_of, step_of, count_in, owner_at, step_in, draft, cell_in}
use Rattle.grounds_laws.specs.Classes.{upto}
use Rattle.grounds_laws.proofs.Drafts.{Follow, length-draft}
use Rattle.grounds_batches.specs.Marking.{kept}
use Rattle.grounds_batches.specs.Sending.{new_of, new_in, word_of, two_in, word_in, numbers_word, Out, steps_in, written, send_one, sent, Small}
use Rattle.grounds_batches.proofs.Marks.{draft-at}
use Rattle.grounds_batches.proofs.Sends.{new-at, new_none, renamed, renamed-cites, renamed-plain, Closed, Sending, sending-skip, sending-send}

-- ---- words

pub step-word : (owner kind mark row mark' row' a b c d : ℕ) → kind < 256 → mark < 256 → row < 65536 → mark' < 256 → row' < 65536 → a < 4294967296 → b < 4294967296
    → c < 4294967296
    → d < 4294967296
    → step_from (word_of owner kind mark row mark' row') (two_in a b) (two_in c d)
    ≡ record { owner = owner; kind = kind; left = record { mark = mark; row = row }; right = record { mark = mark'; row = row' }; numbers = a ∷ b ∷ c ∷ d ∷ [] }
unfolding step_from
step-word owner kind mark row mark' row' a b c d hk hm hr hm' hr' ha hb hc hd =
    let x : ℕ = word_of owner kind mark row mark' row' in
    let e₁ : x / 72057594037927936 ≡ owner = omega arith in
    let e₂ : x / 281474976710656 % 256 ≡ kind = omega arith in
    let e₃ : x / 1099511627776 % 256 ≡ mark = omega arith in
    let e₄ : x / 16777216 % 65536 ≡ row = omega arith in
    let e₅ : x / 65536 % 256 ≡ mark' = omega arith in
    let e₆ : x % 65536 ≡ row' = omega arith in
    let f₁ : two_in a b / 4294967296 ≡ a = omega arith in
    let f₂ : two_in a b % 4294967296 ≡ b = omega arith in
    let g₁ : two_in c d / 4294967296 ≡ c = omega arith in
    let g₂ : two_in c d % 4294967296 ≡ d = omega arith in
    rw (e₁, e₂, e₃, e₄, e₅, e₆, f₁, f₂, g₁, g₂)

steps_of-snoc : (l : List (List ℕ)) (w : List ℕ) → steps_of (l ++ (w ∷ [])) ≡ steps_of l ++ (words_step w ∷ [])
unfolding steps_of
steps_of-snoc l w = map-append words_step l (w ∷ [])

drop-later : (l l₀ : List (List ℕ)) (i : ℕ) (v : List ℕ) → drop i l ≡ drop i l₀ → drop (i + 1) (set l i v) ≡ drop (i + 1) l₀
drop-later l l₀ i v e = drop-set-lt (i + 1) l i v (omega arith) ∙ sym (drop-drop 1 i l) ∙ ap (drop 1) e ∙ drop-drop 1 i l₀

-- ---- what a step that follows holds fits its places

module _ (c : Context) (k : Clause) (a : List ℕ) (rows : length c.rows ≤ most_rows) (patterns : length k.patterns ≤ most_patterns) where
  stands-small : (r : Ref) {t : _} → Stands c k a r t → (r.mark < 256) × (r.row < 65536)
  stands-small r (for-row e h q) = (omega arith, omega arith)
  stands-small r (for-instance e h q) = (omega arith, omega arith)

  kind-small : (earlier : List Step) (s : Step) {t u : _} → Derives c k a earlier s t u → s.kind < 256
  kind-small earlier s (by-statement e w) = omega arith
  kind-small earlier s (by-reflexivity e w) = omega arith
  kind-small earlier s (by-symmetry e w) = omega arith
  kind-small earlier s (by-transitivity e m v w) = omega arith
  kind-small earlier s (by-congruence e f ts us p q w) = omega arith
  kind-small earlier s (by-addition e w) = omega arith

  module _ (from owner : ℕ) (cells : List ℕ) (follow : Follow c k a (draft (length c.rows) from owner cells)) (small : Small cells) where
    abbrev n : ℕ
    n = count_in cells

    abbrev steps : List Step
    steps = draft (length c.rows) from owner cells

    abbrev step_on : ℕ → Step
    step_on i = step_in (length c.rows) from owner cells i

    abbrev cell : ℕ → ℕ → ℕ
    cell i j = cell_in cells i j

    step-parts : (i : ℕ) → i < n
        → ((step_on i).kind < 256) × ((((step_on i).left.mark < 256) × ((step_on i).left.row < 65536)) × (((step_on i).right.mark < 256) × ((step_on i).right.row < 65536)))
    step-parts i h =
        subst (λ (s : Step). (s.kind < 256) × (((s.left.mark < 256) × (s.left.row < 65536)) × ((s.right.mark < 256) × (s.right.row < 65536))))
        (draft-at (length c.rows) from owner cells i h) (
          kind-small (take i steps) (step_at steps i) f.derives,
          (stands-small (step_at steps i).left f.left, stands-small (step_at steps i).right f.right),
        )
      where
        f : Follows c k a (take i steps) (step_at steps i)
        f = follow i (omega (arith, length-draft (length c.rows) from owner cells))

    -- ---- one step, by new numbers

    module _ (news : List ℕ) (fits : (r : ℕ) → new_of news r < 4294967296) where
      new-cites : (kind r : ℕ) → 2 < kind → new_in news kind r ≡ new_of news r
      unfolding new_in
      new-cites kind r h = rw (lt-ltb 2 kind h, new_in)

      new-plain : (kind r : ℕ) → kind ≤ 2 → new_in news kind r ≡ r
      unfolding new_in
      new-plain kind r h = rw (le-ltb 2 kind h, new_in)

      new-small : (kind r : ℕ) → r < 65536 → new_in news kind r < 4294967296
      new-small kind r h = go (ltb 2 kind) refl
        where
          go : (b : Bool) → ltb 2 kind ≡ b → new_in news kind r < 4294967296
          go true e = omega (arith, new-cites kind r (ltb-true 2 kind e), fits r)
          go false e = omega (arith, new-plain kind r (ltb-false 2 kind e))

      words_step_lem : (i : ℕ) → i < n
          → step_from (word_in (length c.rows) (owner_at from owner i) (cell i 1) (cell i 2) (cell i 3)) (numbers_word news (cell i 1) (cell i 4) (cell i 5)) (numbers_word news (cell i 1) (cell i 6) (cell i 7))
          ≡ renamed (new_of news) (step_on i)
      unfolding step_in step_of renamed
      words_step_lem i h =
          step-word (owner_at from owner i) (cell i 1) (ref_of (length c.rows) (cell i 2)).mark (ref_of (length c.rows) (cell i 2)).row (ref_of (length c.rows) (cell i 3)).mark
          (ref_of (length c.rows) (cell i 3)).row
          (new_in news (cell i 1) (cell i 4))
          (new_in news (cell i 1) (cell i 5))
          (new_in news (cell i 1) (cell i 6))
          (new_in news (cell i 1) (cell i 7))
          p.0
          p.1.0.0
          p.1.0.1
          p.1.1.0
          p.1.1.1
          (new-small (cell i 1) (cell i 4) (small.places i h 4 (omega arith) (omega arith)))
          (new-small (cell i 1) (cell i 5) (small.places i h 5 (omega arith) (omega arith)))
          (new-small (cell i 1) (cell i 6) (small.places i h 6 (omega arith) (omega arith)))
          (new-small (cell i 1) (cell i 7) (small.places i h 7 (omega arith) (omega arith)))
          ∙ go (ltb 2 (cell i 1)) refl
        where
          p : (cell i 1 < 256)
              × ((((ref_of (length c.rows) (cell i 2)).mark < 256) × ((ref_of (length c.rows) (cell i 2)).row < 65536))
              × (((ref_of (length c.rows) (cell i 3)).mark < 256) × ((ref_of (length c.rows) (cell i 3)).row < 65536)))
          p = step-parts i h

          made : List ℕ → Step
          made l =
              record {
                owner = owner_at from owner i;
                kind = cell i 1;
                left = ref_of (length c.rows) (cell i 2);
                right = ref_of (length c.rows) (cell i 3);
                numbers = l;
              }

          go : (b : Bool) → ltb 2 (cell i 1) ≡ b
              → made (new_in news (cell i 1) (cell i 4) ∷ new_in news (cell i 1) (cell i 5) ∷ new_in news (cell i 1) (cell i 6) ∷ new_in news (cell i 1) (cell i 7) ∷ [])
              ≡ renamed (new_of news) (step_on i)
          go true e =
              let l : 2 < cell i 1 = ltb-true 2 (cell i 1) e in
              ap made
              (rw (new-cites (cell i 1) (cell i 4) l, new-cites (cell i 1) (cell i 5) l, new-cites (cell i 1) (cell i 6) l, new-cites (cell i 1) (cell i 7) l)
              (sym (renamed-cites (new_of news) (step_on i) l)))
          go false e =
              let l : cell i 1 ≤ 2 = ltb-false 2 (cell i 1) e in
              ap made
              (rw (new-plain (cell i 1) (cell i 4) l, new-plain (cell i 1) (cell i 5) l, new-plain (cell i 1) (cell i 6) l, new-plain (cell i 1) (cell i 7) l)
              (sym (renamed-plain (new_of news) (step_on i) l)))

    -- the words of step i, by new numbers
    abbrev words_for : List ℕ → ℕ → List ℕ
    words_for news i =
        words_of (word_in (length c.rows) (owner_at from owner i) (cell i 1) (cell i 2) (cell i 3)) (numbers_word news (cell i 1) (cell i 4) (cell i 5))
        (numbers_word news (cell i 1) (cell i 6) (cell i 7))

    written-steps : (o : Out) → ((r : ℕ) → new_of o.news r < 4294967296) → (i : ℕ) → i < n → o.next < length o.steps
        → steps_in (written (length c.rows) from owner cells i o) ≡ steps_in o ++ (renamed (new_of o.news) (step_at steps i) ∷ [])
    unfolding steps_in written
    written-steps o fits i h r =
        let z : o.next + 1 ≡ suc o.next = omega arith in
        rw (z, take-suc-set o.steps o.next (words_for o.news i) r)
        (steps_of-snoc (take o.next o.steps) (words_for o.news i)
        ∙ ap (λ (s : Step). steps_in o ++ (s ∷ []))
        (words_step_lem o.news fits i h ∙ ap (renamed (new_of o.news)) (sym (draft-at (length c.rows) from owner cells i h))))

    -- ---- all steps

    module _ (marks : List ℕ) (closed : Closed c k a steps (kept marks)) (o₀ : Out) where
      -- after the first m steps
      pub record Emitting (m : ℕ) (o : Out) : Type 0 where
        pub sends : Sending c k a (draft (length c.rows) from owner cells) (kept marks) o₀.news (steps_in o₀) m o.news (steps_in o)
        pub counted : length (steps_in o) ≡ o.next
        pub rest : drop o.next o.steps ≡ drop o.next o₀.steps
        pub long : length o.steps ≡ length o₀.steps

      -- there is room for all of them
      pub record Room : Type 0 where
        pub counted : length (steps_in o₀) ≡ o₀.next
        pub few : o₀.next + n < 4294967296
        pub numbers : n < length o₀.news
        pub space : o₀.next + n ≤ length o₀.steps

      module _ (room : Room) where
        new-fits : (m : ℕ) → m < n → (o : Out) → Emitting m o → (r : ℕ) → new_of o.news r < 4294967296
        new-fits m h o w zero = omega (arith, new_none o.news)
        new-fits m h o w (suc p) = go (get_or o.news (suc p) 0) refl
          where
            go : (v : ℕ) → get_or o.news (suc p) 0 ≡ v → new_of o.news (suc p) < 4294967296
            go zero e = omega (arith, new-at o.news p, e)
            go (suc q) e = omega (arith, new-at o.news p, e, (w.sends.shown p q e).inside, w.sends.most, room.counted, room.few)

        emit-written : (m : ℕ) → m < n → (o : Out) → Emitting m o → kept marks (suc m) ≡ true → get_or o.news (suc m) 0 ≡ 0
            → Emitting (suc m) (written (length c.rows) from owner cells m o)
        unfolding written
        emit-written m h o w e z =
            record {
              sends =
                  subst₂ (Sending c k a steps (kept marks) o₀.news (steps_in o₀) (suc m)) named (sym more)
                  (sending-send c k a steps (kept marks) o₀.news (steps_in o₀) closed (omega (arith, all, room.numbers)) m (omega (arith, all)) o.news (steps_in o) w.sends e z
                  (follow m (omega (arith, all))));
              counted = ap length more ∙ length-snoc (steps_in o) (renamed (new_of o.news) (step_at steps m)) ∙ omega (arith, w.counted);
              rest = drop-later o.steps o₀.steps o.next (words_for o.news m) w.rest;
              long = length-set o.steps o.next (words_for o.news m) ∙ w.long;
            }
          where
            all : length steps ≡ n
            all = length-draft (length c.rows) from owner cells

            inside : o.next < o₀.next + n
            inside = omega (arith, w.sends.most, w.counted, room.counted)

            more : steps_in (written (length c.rows) from owner cells m o) ≡ steps_in o ++ (renamed (new_of o.news) (step_at steps m) ∷ [])
            more = written-steps o (new-fits m h o w) m h (omega (arith, inside, w.long, room.space))

            named : set o.news (suc m) (suc (length (steps_in o))) ≡ set o.news (m + 1) (o.next + 1)
            named = ap₂ (set o.news) (omega arith) (omega (arith, w.counted))

        emit-kept : (m : ℕ) → (o : Out) → Emitting m o → (kept marks (suc m) ≡ true → get_or o.news (suc m) 0 ≡ 0 → ⊥) → Emitting (suc m) o
        emit-kept m o w skip =
            record {
              sends = sending-skip c k a steps (kept marks) o₀.news (steps_in o₀) m o.news (steps_in o) w.sends skip;
              counted = w.counted;
              rest = w.rest;
              long = w.long;
            }

        emit-next : (m : ℕ) → m < n → (o : Out) → Emitting m o → Emitting (suc m) (send_one (length c.rows) from owner cells marks m o)
        unfolding send_one
        emit-next m h o w = go (kept marks (m + 1)) refl (eqb (get_or o.news (m + 1) 0) 0) refl
          where
            next : suc m ≡ m + 1
            next = omega arith

            go : (b : Bool) → kept marks (m + 1) ≡ b → (d : Bool) → eqb (get_or o.news (m + 1) 0) 0 ≡ d
                → Emitting (suc m) (send_one (length c.rows) from owner cells marks m o)
            go true e true f =
                rw (e, send_one, f)
                (emit-written m h o w (ap (kept marks) next ∙ e) (ap (λ (i : ℕ). get_or o.news i 0) next ∙ eqb-true (get_or o.news (m + 1) 0) 0 f))
            go true e false f =
                rw (e, send_one, f)
                (emit-kept m o w (λ s z. eqb-false (get_or o.news (m + 1) 0) 0 f (ap (λ (i : ℕ). get_or o.news i 0) (sym next) ∙ z)))
            go false e d f =
                rw (e, send_one)
                (emit-kept m o w (λ s z. let y : true ≡ false = sym s ∙ ap (kept marks) next ∙ e in let x : ◌≡◌ {A = ℕ} 0 1 = cc in omega arith))

        emit-to : (m : ℕ) → m ≤ n → Emitting 0 o₀ → Emitting m (upto m (send_one (length c.rows) from owner cells marks) o₀)
        unfolding upto
        emit-to zero h w = w
        emit-to (suc m) h w =
            emit-next m (omega arith) (upto m (send_one (length c.rows) from owner cells marks) o₀) (emit-to m (omega arith) w)

        pub emitted-all : Sending c k a steps (kept marks) o₀.news (steps_in o₀) 0 o₀.news (steps_in o₀) → Emitting n (sent (length c.rows) from owner cells marks n o₀)
        unfolding sent
        emitted-all s =
            emit-to n (omega arith)
            (record { sends = s; counted = room.counted; rest = refl; long = refl })
