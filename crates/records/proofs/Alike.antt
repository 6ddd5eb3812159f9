-- The closing and the finder reply alike over records and over the runs made of them, and each has one reply.
--     judges-alike, judges-one                         to what is said twice, and of two replies to one question
--     finds-runs-one, finds-rows-one, closed-rows-one  so runs and records have one reply, and one closing
--     finds-over, closes-over                          of too many records: unfit
--     closes-listed, finds-listed                      of records put in runs
--     closes-back, finds-back                          and of the runs made of them
--     closes-unread, finds-unread                      argument places from the count on change neither
--     unread-classes, unread-reply                     so there is one for all that they may hold
-- Assumes nothing.
use mathlib.Core.List.{List, map}
use mathlib.Core.Path.{◌≡◌, refl, sym, ap, ap₂, subst, ◌∙◌}
use Prim.Native.Nat.{ℕ, ◌<◌}
use native.Mathlib.Omega.{arith}
use lib.ListN.{length}
use lib.Seq.{ext_get_or}
use Rattle.meaning.specs.Context.{Context}
use Rattle.meaning.specs.Rules.{Clause}
use Rattle.meaning.specs.Equality.{Promise}
use Rattle.meaning.specs.Replies.{places_of, Judged}
use Rattle.meaning.proofs.Answered.{judged-one}
use Rattle.meaning.proofs.Promised.{promise-one}
use Rattle.runs.specs.Limits.{most_rows, most_statements}
use Rattle.runs.specs.Runs as R
use Rattle.records.specs.declared.ClauseColumns.{ClauseColumns}
use Rattle.classes.specs.Claims.{Closes}
use Rattle.classes.specs.declared.Answer.{Answer}
use Rattle.classes.specs.declared.Answer.TheVariants as A
use Rattle.classes.specs.declared.Classes.{Classes}
use Rattle.replies.specs.Told.{told_of}
use Rattle.records.specs.declared.Row.{Row}
use Rattle.records.specs.declared.Statements.{Statements}
use Rattle.std.specs.Prelude.{Option, Some, None}
use Rattle.replies.specs.declared.Outcome.{Outcome}
use Rattle.replies.specs.declared.Reply.{Reply}
use Rattle.finder.proofs.Judging.{told-one}
use Rattle.records.specs.Records.{row_of, context_of, FitRows}
use Rattle.records.specs.Layouts.{list_of, rows_laid, said_laid, rule_of}
use Rattle.records.specs.Claims.{ClosesRows, ClosedRows, ClosedTable, FitRule, Judges, judged, unfit, FindsRuns, FindsTable, FindsRows}
use Rattle.records.proofs.Layouts.{laid-context, laid-fit, fit-laid, unread}

-- ---- one question asked twice

pub judges-alike : (F G U Y : Type 0) (c d : Context) (k : Clause) (r : Option Reply) → (F → G) → (G → F) → (U → Y) → (Y → U) → (F → c ≡ d) → Judges F U c k r
    → Judges G Y d k r
judges-alike F G U Y c d k r f g u v e (judged p q m j z told places) = judged (f p) (u q) m (subst (λ (x : Context). Judged x k m) (e p) j) z told places
judges-alike F G U Y c d k r f g u v e (unfit n) = unfit (λ p q. n (g p) (v q))

-- ---- one reply

pub judges-one : (F U : Type 0) (c : Context) (k : Clause) (r s : Option Reply) → Judges F U c k r → Judges F U c k s → r ≡ s
judges-one F U c k r s (judged p q m j x t l) (judged p' q' m' j' y t' l') =
    let e : m ≡ m' = judged-one c k m m' j j' in
    ap₂ (λ (o : Outcome) (l : List ℕ). Some (record { outcome = o; places = l })) (told-one x.outcome y.outcome (t ∙ ap told_of e ∙ sym t')) (l ∙ ap places_of e ∙ sym l')
judges-one F U c k r s (judged p q m j x t l) (unfit n) = absurd (n p q)
judges-one F U c k r s (unfit n) (judged p q m j x t l) = absurd (n p q)
judges-one F U c k r s (unfit n) (unfit n') = refl

pub finds-runs-one : (rows said patterns literals : List ℕ) (r s : Option Reply) → FindsRuns rows said patterns literals r → FindsRuns rows said patterns literals s → r ≡ s
finds-runs-one rows said patterns literals r s p q = judges-one _ _ (R.context_of rows said) (R.clause_of patterns literals) r s p.judges q.judges

pub finds-rows-one : (rows : List Row) (s : Statements) (k : ClauseColumns) (r t : Option Reply) → FindsRows rows s k r → FindsRows rows s k t → r ≡ t
finds-rows-one rows s k r t p q = judges-one (FitRows rows s) (FitRule k) (context_of rows s) (rule_of k) r t p.judges q.judges

pub closed-rows-one : (rows : List Row) (s : Statements) (r t : Classes) → ClosedRows rows s r → ClosedRows rows s t → r ≡ t
closed-rows-one rows s r t p q = go r.answer t.answer r.table t.table p.closes q.closes
  where
    both : {a b : Answer} {l m : List ℕ} → a ≡ b → l ≡ m → ◌≡◌ {A = Classes} (record { answer = a; table = l }) (record { answer = b; table = m })
    both e f = rw (e, f)

    go : (a b : Answer) (l m : List ℕ) → ClosesRows rows s a l → ClosesRows rows s b m → ◌≡◌ {A = Classes} (record { answer = a; table = l }) (record { answer = b; table = m })
    go A.Closed A.Closed l m x y = both refl (promise-one (context_of rows s) most_rows l m x.1 y.1)
    go A.Closed A.Unfit l m x y = absurd (y.0 x.0)
    go A.Unfit A.Closed l m x y = absurd (x.0 y.0)
    go A.Unfit A.Unfit l m x y =
        both refl (ext_get_or 0 l m (x.1.long ∙ sym y.1.long) (λ i h. let b : i < most_rows = omega (arith, x.1.long) in x.1.own i b ∙ sym (y.1.own i b)))

-- ---- too many records

module _ (rows : List Row) (many : most_rows < length rows) (s : Statements) where
  many-unfit : FitRows rows s → ⊥
  many-unfit f = omega (arith, f.rows_few)

  pub finds-over : (k : ClauseColumns) (r : Option Reply) → FindsRows rows s k r → r ≡ None
  finds-over k r p = finds-rows-one rows s k r None p (record { judges = unfit (λ f q. many-unfit f) })

  pub closes-over : (a : Answer) (t : List ℕ) → ClosesRows rows s a t → a ≡ A.Unfit
  closes-over A.Closed t p = absurd (many-unfit p.0)
  closes-over A.Unfit t p = refl

-- ---- records in runs

module _ (rows : List Row) (s : Statements) where
  said-alike : FitRows rows s → R.context_of (rows_laid (list_of rows)) (said_laid s) ≡ context_of rows s
  said-alike f = laid-context rows s f.rows_few f.statements-few

  pub closes-listed : (r : Classes) → ClosedTable (list_of rows) s r → ClosedRows rows s r
  closes-listed r p = record { closes = go r.answer r.table p.closes }
    where
      go : (a : Answer) (t : List ℕ) → Closes most_rows most_statements (rows_laid (list_of rows)) (said_laid s) a t → ClosesRows rows s a t
      go A.Closed t q = let f : FitRows rows s = laid-fit rows s q.0 in (f, subst (λ (d : Context). Promise d most_rows t) (said-alike f) q.1)
      go A.Unfit t q = (λ f. q.0 (fit-laid rows s f), q.1)

  pub closes-back : (r : Classes) → ClosedRows rows s r → ClosedTable (list_of rows) s r
  closes-back r p = record { closes = go r.answer r.table p.closes }
    where
      go : (a : Answer) (t : List ℕ) → ClosesRows rows s a t → Closes most_rows most_statements (rows_laid (list_of rows)) (said_laid s) a t
      go A.Closed t q = (fit-laid rows s q.0, subst (λ (d : Context). Promise d most_rows t) (sym (said-alike q.0)) q.1)
      go A.Unfit t q = (λ f. q.0 (laid-fit rows s f), q.1)

  module _ (k : ClauseColumns) (r : Option Reply) where
    pub finds-listed : FindsTable (list_of rows) s k r → FindsRows rows s k r
    finds-listed p =
        record {
          judges =
              judges-alike _ _ _ _ (R.context_of (rows_laid (list_of rows)) (said_laid s)) (context_of rows s) (rule_of k) r (laid-fit rows s) (fit-laid rows s)
              (λ q. record { fit = q }) (λ q. q.fit) (λ f. said-alike (laid-fit rows s f)) p.finds.judges;
        }

    pub finds-back : FindsRows rows s k r → FindsTable (list_of rows) s k r
    finds-back p =
        record {
          finds = record {
            judges =
                judges-alike _ _ _ _ (context_of rows s) (R.context_of (rows_laid (list_of rows)) (said_laid s)) (rule_of k) r (fit-laid rows s) (laid-fit rows s)
                (λ q. q.fit) (λ q. record { fit = q }) (λ f. sym (said-alike f)) p.judges;
          };
        }

-- ---- what is not read

module _ (rows rows' : List Row) (s : Statements) (e : map row_of rows ≡ map row_of rows') (c : map (λ r. r.count) rows ≡ map (λ r. r.count) rows') where
  pub finds-unread : (k : ClauseColumns) (r : Option Reply) → FindsRows rows s k r → FindsRows rows' s k r
  finds-unread k r p =
      record {
        judges =
            judges-alike _ _ _ _ (context_of rows s) (context_of rows' s) (rule_of k) r (unread rows rows' s e c).1 (unread rows' rows s (sym e) (sym c)).1 (λ q. q) (λ q. q) (λ f. (unread rows rows' s e c).0)
            p.judges;
      }

  pub closes-unread : (r : Classes) → ClosedRows rows s r → ClosedRows rows' s r
  closes-unread r p = record { closes = go r.answer r.table p.closes }
    where
      go : (a : Answer) (t : List ℕ) → ClosesRows rows s a t → ClosesRows rows' s a t
      go A.Closed t q = ((unread rows rows' s e c).1 q.0, subst (λ (d : Context). Promise d most_rows t) (unread rows rows' s e c).0 q.1)
      go A.Unfit t q = (λ f. q.0 ((unread rows' rows s (sym e) (sym c)).1 f), q.1)

  pub unread-classes : (r t : Classes) → ClosedRows rows s r → ClosedRows rows' s t → r ≡ t
  unread-classes r t p q = closed-rows-one rows' s r t (closes-unread r p) q

  pub unread-reply : (k : ClauseColumns) (r t : Option Reply) → FindsRows rows s k r → FindsRows rows' s k t → r ≡ t
  unread-reply k r t p q = finds-rows-one rows' s k r t (finds-unread k r p) q
