-- One literal after the other: after each, all that is written follows, is needed, and shows the literals so far.
--     Drawing                 after so many literals
--     drawing-start           before the first
--     drawing-next            after one literal more, where its column holds numbers of 16 bits
--     drawing-accepted        the verdict on all of them
-- Assumes nothing.
use mathlib.Core.Bool.{Bool, true, false}
use mathlib.Core.List.{List}
use mathlib.Core.Path.{◌≡◌, refl, ap, sym, ◌∙◌, subst}
use mathlib.Core.Logic.{◌⊎◌, inl, inr}
use Prim.Native.Nat.{ℕ, suc, ◌+◌, ◌-◌, ◌*◌, ◌≤◌, ◌<◌}
use native.Mathlib.Omega.{arith}
use lib.Dec.{eqb, ltb}
use borrow.Author.Tests.{eqb-true, eqb-false, ltb-true, ltb-false}
use lib.ListN.{length, get_or, set, take, drop, length-set, length-take, length-replicate}
use lib.Seq.{get_or-take, get_or-set_same, get_or-set_other, drop-drop}
use Rattle.meaning.specs.Context.{Term, Row, Context, differences}
use Rattle.meaning.specs.Rules.{Literal, equal, unequal, Clause, AllHold}
use Rattle.meaning.specs.GroundColumns.{conclusion_from}
use Rattle.meaning.specs.Grounds.{Step, step₀, step_at, number_in, Conclusion, conclusion_for, literal_at, instances_of, Cites, Concludes, Verified, accepted, accepts}
use Rattle.meaning.specs.Checking.{numbered}
use Rattle.meaning.proofs.Cited.{Ready}
use Rattle.runs.specs.Limits.{most_rows, most_patterns, most_literals}
use Rattle.grounds_steps.specs.Steps.{steps_of}
use Rattle.grounds_numbers.specs.Limits.{most_entries}
use Rattle.grounds_laws.specs.Limits.{number_run}
use Rattle.grounds_laws.specs.Draft.{count_in, draft}
use Rattle.grounds_laws.specs.Classes.{State}
use Rattle.grounds_laws.specs.Concluding.{Said, said, resumed, owner_of}
use Rattle.grounds_laws.proofs.Drafts.{Under, under-self, Follow, length-draft}
use Rattle.grounds_laws.proofs.Builds.{all}
use Rattle.grounds_laws.proofs.Passes.{Keys}
use Rattle.grounds_laws.proofs.Concludes.{conclusion}
use Rattle.grounds_laws.proofs.Literal.{Closed, SaidFor, said-literal, said-shared, hold_at}
use Rattle.grounds_batches.specs.Sending.{new_of, Out, steps_in, forgotten, batch, Small}
use Rattle.grounds_batches.specs.Drawing.{Drawn, draw_said, draw_one, blank_drawn, end_written, CitedLater, Used, by-step, by_end, owned_by}
use Rattle.grounds_batches.proofs.Owned.{passing}
use Rattle.grounds_batches.proofs.Sends.{named}
use Rattle.grounds_batches.proofs.Owners.{Shared, owns-most, owns-other, shares-more}
use Rattle.grounds_batches.proofs.Batching.{Knows, knows_start, Sent, batch-sent}

-- another literal's owner
owner-other : (j : ℕ) (l : Literal) (i : ℕ) → (i ≡ j → ⊥) → suc i ≡ owner_of j l → ⊥
unfolding owner_of
owner-other j (equal p q) i d e = omega arith
owner-other j (unequal p q) i d e = d (omega arith)

-- ---- more steps

drop-further : (n m : ℕ) (l other : List (List ℕ)) → n ≤ m → drop n l ≡ drop n other → drop m l ≡ drop m other
drop-further n m l other h e =
    let z : m ≡ n + (m - n) = omega arith in
    ap (λ (i : ℕ). drop i l) z ∙ sym (drop-drop (m - n) n l) ∙ ap (drop (m - n)) e ∙ drop-drop (m - n) n other ∙ ap (λ (i : ℕ). drop i other) (sym z)

cited-further : (n : ℕ) (steps : List Step) (p : ℕ) → CitedLater (take n steps) p → CitedLater steps p
cited-further n steps p w =
    let z : step_at (take n steps) w.place ≡ step_at steps w.place = get_or-take n steps w.place step₀ (omega (arith, w.inside, length-take n steps)) in
    record {
      place = w.place;
      later = w.later;
      inside = omega (arith, w.inside, length-take n steps);
      citing = subst (λ (s : Step). 2 < s.kind) z w.citing;
      which = w.which;
      among = w.among;
      number = ap (λ (s : Step). number_in s w.which) (sym z) ∙ w.number;
    }

module _ (c : Context) (k : Clause) (a : List ℕ) where
  cites-further : (n : ℕ) (steps : List Step) {o x : ℕ} {t u : Term} → Cites c k a (take n steps) o x t u → Cites c k a steps o x t u
  cites-further n steps w =
      let z : step_at (take n steps) w.place ≡ step_at steps w.place = get_or-take n steps w.place step₀ (omega (arith, w.inside, length-take n steps)) in
      record {
        place = w.place;
        counted = w.counted;
        inside = omega (arith, w.inside, length-take n steps);
        usable = rw (sym z) w.usable;
        left = rw (sym z) w.left;
        right = rw (sym z) w.right;
      }

  -- ---- conclusions by other steps

  -- of what the conclusion reads, the step may have another number
  concludes-moved : (before after : List Step) (n : ℕ) (d e : Conclusion) → e.difference ≡ d.difference
      → ((o : ℕ) (t u : Term) → Cites c k a before o d.first t u → Cites c k a after o e.first t u)
      → (l : Literal)
      → Concludes c k a before n d l
      → Concludes c k a after n e l
  concludes-moved before after n d e same moves (equal p q) w = moves _ _ _ w
  concludes-moved before after n d e same moves (unequal p q) w =
      record { left = w.left; right = w.right; pair = rw same w.pair; cites = moves _ _ _ w.cites }

  first-inside : (steps : List Step) (n : ℕ) (d : Conclusion) (l : Literal) → Concludes c k a steps n d l → d.first ≤ length steps
  first-inside steps n d (equal p q) w = omega (arith, w.counted, w.inside)
  first-inside steps n d (unequal p q) w = omega (arith, w.cites.counted, w.cites.inside)

  -- ---- what is written so far

  -- of shared steps, in a run of words
  module _ (closed : State) (steps : List (List ℕ)) where
    -- after the first j literals
    pub record Drawing (j : ℕ) (d : Drawn) : Type 0 where
      pub under : Under (count_in closed.cells) closed.cells d.cells
      pub knows : Knows (draft (length c.rows) 0 0 closed.cells) d.out.news (steps_in d.out)
      pub follow : Follow c k a (steps_in d.out)
      pub counted : length (steps_in d.out) ≡ d.out.next
      pub most : d.out.next ≤ j * 7020
      pub shares : owned_by 0 (steps_in d.out) ≤ passing (Shared d.out.news) (count_in closed.cells) + j * 2
      pub owns : (i : ℕ) → owned_by (suc i) (steps_in d.out) ≤ 7020
      pub later : (i : ℕ) → j ≤ i → owned_by (suc i) (steps_in d.out) ≡ 0
      pub numbers : length d.out.news ≡ number_run
      pub ends : length d.ends ≡ most_literals
      pub differences : length d.differences ≡ most_literals
      pub concluded : (i : ℕ) → i < j → Concludes c k a (steps_in d.out) (suc i) (end_written d i) (literal_at k.literals i)
      pub used : (p : ℕ) → p < d.out.next → Used (steps_in d.out) (end_written d) j p
      pub rest : drop d.out.next d.out.steps ≡ drop d.out.next steps
      pub long : length d.out.steps ≡ length steps

  module _ (ns : List ℕ) (ready : Ready c k a ns) (few : length c.rows + length k.patterns ≤ most_entries) (ks : List Row) (keyed : Keys c k a ns ready few ks)
      (few_rows : length c.rows ≤ most_rows) (few_patterns : length k.patterns ≤ most_patterns) (few_literals : length k.literals ≤ most_literals)
      (hold : AllHold c (instances_of c k a) k.literals) (closed : State) (closes : Closed c k a ns ready few ks keyed closed) (steps : List (List ℕ))
      (room : 112320 ≤ length steps) where
    abbrev N : ℕ
    N = all c k a ns ready

    abbrev rows : ℕ
    rows = length c.rows

    abbrev from : ℕ
    from = count_in closed.cells

    abbrev shared : List Step
    shared = draft rows 0 0 closed.cells

    abbrev diffs : List (ℕ × ℕ)
    diffs = numbered ns (differences c)

    pub drawing-start : Drawing closed steps 0 (blank_drawn closed.cells steps)
    unfolding blank_drawn steps_in steps_of owned_by
    drawing-start =
        record {
          under = under-self from closed.cells;
          knows = knows_start shared (steps_in (blank_drawn closed.cells steps).out) number_run;
          follow = λ i h. absurd (omega arith);
          counted = refl;
          most = omega arith;
          shares = omega arith;
          owns = λ i. omega arith;
          later = λ i h. refl;
          numbers = length-replicate {A = ℕ} number_run 0;
          ends = length-replicate {A = ℕ} most_literals 0;
          differences = length-replicate {A = ℕ} most_literals 0;
          concluded = λ i h. absurd (omega arith);
          used = λ p h. absurd (omega arith);
          rest = refl;
          long = refl;
        }

    -- ---- one literal more

    module _ (j : ℕ) (h : j < length k.literals) (d : Drawn) (w : Drawing closed steps j d) where
      abbrev l : Literal
      l = literal_at k.literals j

      abbrev s : Said
      s = said N ks ns rows diffs l (resumed closed d.cells)

      says : SaidFor c k a ns ready few ks keyed closed closes j l s
      says = said-literal c k a ns ready few ks keyed closed closes d.cells w.under j h (hold_at c (instances_of c k a) k.literals hold j h)

      module _ (small : Small (said N ks ns rows diffs (literal_at k.literals j) (resumed closed d.cells)).cells) where
        abbrev out : Out
        out = batch rows from (owner_of j l) s.cells s.first d.out

        abbrev after : Drawn
        after = draw_said rows from (owner_of j l) j s d

        inside : s.first ≤ count_in s.cells
        inside =
            omega (arith, first-inside (draft rows from (owner_of j l) s.cells) (suc j) (conclusion j s) l says.concludes, length-draft rows from (owner_of j l) s.cells)

        sends : Sent c k a shared (draft rows from (owner_of j l) s.cells) s.first d.out out
        sends =
            batch-sent c k a few_rows few_patterns from (owner_of j l) s.cells says.follow small shared
            (said-shared c k a ns ready few ks keyed closed closes j l s says)
            says.past
            s.first
            inside
            d.out
            w.knows
            w.follow
            (record {
              counted = w.counted;
              few = omega (arith, w.most, says.most);
              numbers = omega (arith, says.most, w.numbers);
              space = omega (arith, w.most, says.most, w.long);
            })

        -- ---- how many steps each owner has

        owned : (x : ℕ) → owned_by x (steps_in out) + passing (named (draft rows from (owner_of j l) s.cells) x (forgotten from d.out.news)) (length (draft rows from (owner_of j l) s.cells))
            ≤ owned_by x (steps_in d.out) + passing (named (draft rows from (owner_of j l) s.cells) x out.news) (length (draft rows from (owner_of j l) s.cells))
        owned x = rw (length-draft rows 0 0 closed.cells) at (sends.owned x)

        others : (i : ℕ) → (i ≡ j → ⊥) → owned_by (suc i) (steps_in out) ≤ owned_by (suc i) (steps_in d.out)
        others i e =
            owns-other rows from (owner_of j l) s.cells says.past d.out.news out.news (steps_in d.out) (steps_in out) owned (suc i) (λ z. omega arith)
            (owner-other j l i e)

        owns : (i : ℕ) → owned_by (suc i) (steps_in out) ≤ 7020
        owns i = go (eqb i j) refl
          where
            go : (b : Bool) → eqb i j ≡ b → owned_by (suc i) (steps_in out) ≤ 7020
            go true e =
                rw (eqb-true i j e)
                (omega (arith, owns-most rows from (owner_of j l) s.cells says.past d.out.news out.news (steps_in d.out) (steps_in out) owned (suc j), says.most, w.later j (omega arith)))
            go false e = omega (arith, others i (eqb-false i j e), w.owns i)

        later : (i : ℕ) → suc j ≤ i → owned_by (suc i) (steps_in out) ≡ 0
        later i b = omega (arith, others i (λ e. omega arith), w.later i (omega arith))

        shares : owned_by 0 (steps_in out) ≤ passing (Shared out.news) from + suc j * 2
        shares =
            omega (arith, shares-more rows from (owner_of j l) s.cells says.past d.out.news out.news (steps_in d.out) (steps_in out) owned 2 says.brief, w.shares)

        -- the conclusions of earlier literals stay, and this one's is new
        end_before : (i : ℕ) → i < j → end_written after i ≡ end_written d i
        unfolding draw_said conclusion_from
        end_before i b =
            let x : get_or (set d.ends j (new_of out.news s.first)) i 0 ≡ get_or d.ends i 0 =
            get_or-set_other d.ends j i (new_of out.news s.first) 0 (λ e. omega arith) in
            let y : get_or (set d.differences j s.difference) i 0 ≡ get_or d.differences i 0 =
            get_or-set_other d.differences j i s.difference 0 (λ e. omega arith) in
            rw (x, y)

        end-first : (end_written after j).first ≡ new_of out.news s.first
        unfolding draw_said conclusion_from
        end-first = get_or-set_same d.ends j (new_of out.news s.first) 0 (omega (arith, w.ends))

        end-difference : (end_written after j).difference ≡ s.difference
        unfolding draw_said conclusion_from
        end-difference = get_or-set_same d.differences j s.difference 0 (omega (arith, w.differences))

        earlier : {o x : ℕ} {t u : Term} → Cites c k a (steps_in d.out) o x t u → Cites c k a (steps_in out) o x t u
        earlier {o} {x} {t} {u} v =
            cites-further d.out.next (steps_in out) (subst (λ (z : List Step). Cites c k a z o x t u) (sym sends.first) v)

        concluded : (i : ℕ) → i < suc j → Concludes c k a (steps_in out) (suc i) (end_written after i) (literal_at k.literals i)
        concluded i b = go (eqb i j) refl
          where
            go : (e : Bool) → eqb i j ≡ e → Concludes c k a (steps_in out) (suc i) (end_written after i) (literal_at k.literals i)
            go true e =
                rw (eqb-true i j e)
                (concludes-moved (draft rows from (owner_of j l) s.cells) (steps_in out) (suc j) (conclusion j s) (end_written after j) end-difference
                (λ o t u v. rw end-first (sends.cites v))
                l
                says.concludes)
            go false e =
                let z : i < j = omega (arith, eqb-false i j e) in
                rw (end_before i z)
                (concludes-moved (steps_in d.out) (steps_in out) (suc i) (end_written d i) (end_written d i) refl (λ o t u v. earlier v) (literal_at k.literals i)
                (w.concluded i z))

        used : (p : ℕ) → p < out.next → Used (steps_in out) (end_written after) (suc j) p
        used p b = go (ltb p d.out.next) refl
          where
            again : Used (steps_in d.out) (end_written d) j p → Used (steps_in out) (end_written after) (suc j) p
            again (by-step v) = by-step (cited-further d.out.next (steps_in out) p (subst (λ (z : List Step). CitedLater z p) (sym sends.first) v))
            again (by_end i x e) = by_end i (omega arith) (ap (λ (z : Conclusion). z.first) (end_before i x) ∙ e)

            new : (new_of out.news s.first ≡ suc p) ⊎ CitedLater (steps_in out) p → Used (steps_in out) (end_written after) (suc j) p
            new (inl e) = by_end j (omega arith) (end-first ∙ e)
            new (inr v) = by-step v

            go : (e : Bool) → ltb p d.out.next ≡ e → Used (steps_in out) (end_written after) (suc j) p
            go true e = again (w.used p (ltb-true p d.out.next e))
            go false e = new (sends.used p (ltb-false p d.out.next e) b)

        pub drawing-next : Drawing closed steps (suc j) (draw_one N ks ns rows diffs closed k.literals j d)
        unfolding draw_one draw_said
        drawing-next =
            record {
              under = says.under;
              knows = sends.knows;
              follow = sends.follow;
              counted = sends.counted;
              most = omega (arith, sends.most, length-draft rows from (owner_of j l) s.cells, says.most, w.most);
              shares = shares;
              owns = owns;
              later = later;
              numbers = sends.numbers ∙ w.numbers;
              ends = length-set d.ends j (new_of out.news s.first) ∙ w.ends;
              differences = length-set d.differences j s.difference ∙ w.differences;
              concluded = concluded;
              used = used;
              rest = sends.rest ∙ drop-further d.out.next out.next d.out.steps steps sends.least w.rest;
              long = sends.long ∙ w.long;
            }

    -- ---- all literals

    pub drawing-accepted : (d : Drawn) → Drawing closed steps (length k.literals) d → (ds : List Conclusion)
        → ((j : ℕ) → j < length k.literals → conclusion_for (suc j) ds ≡ end_written d j)
        → Verified c k a (steps_in d.out) ds accepted
    drawing-accepted d w ds e =
        accepts ready.chosen w.follow
        (λ j h. subst (λ (z : Conclusion). Concludes c k a (steps_in d.out) (suc j) z (literal_at k.literals j)) (sym (e j h)) (w.concluded j h))
