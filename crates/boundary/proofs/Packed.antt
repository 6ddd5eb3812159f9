-- What is packed is the reply, and a reply is packed in one way only.
--     answers-found, answers_one      the finder's number and rows are those of the reply, and no other are
--     proceeds-found, proceeds-one    and so are those after an assignment
--     wrote-small                     a normal text's length is packed below 2 to the 64th
--     settles-written, settles-one    the normaliser's number is that of its answer, and no other is
--     pack-breach .. pack-unwritten   what each way out of the packing returns
-- Assumes nothing.
use mathlib.Core.List.{List, [], ◌∷◌}
use mathlib.Core.Path.{◌≡◌, refl, sym, ap, ◌∙◌, subst}
use Prim.Native.Nat.{ℕ, suc, ◌+◌, ◌*◌, ◌≤◌}
use native.Mathlib.Omega.{arith}
use borrow.Author.Rules.{rules}
use lib.ListN.{length}
use mir.Syntax.{w64}
use mir.Val.{Fits}
use Rattle.replies.specs.declared.Refusal.{Refusal}
use Rattle.meaning.specs.Context.{Row, Context}
use Rattle.meaning.specs.Equality.{Representatives, reflexive}
use Rattle.meaning.specs.Formed.{Fit}
use Rattle.meaning.specs.Text as T
use Rattle.meaning.specs.Text.{narrow, faulty, taken, read}
use Rattle.meaning.specs.Writing.{context_text, normal_of}
use Rattle.meaning.specs.Replies as M
use Rattle.meaning.specs.Replies.{breach, none, refused, places_of, Settled, settles, normal, Normalised, Normalises, NormalisesTo, Leaves, fits, short, stays, Writes}
use Rattle.meaning.specs.Packing.{packed_reply, packed_written}
use Rattle.meaning.proofs.Answered.{replies-one, writes_one}
use Rattle.meaning.proofs.Agreement.{normal-one}
use Rattle.meaning.proofs.Bounds.{normal-bytes}
use Rattle.meaning.proofs.Kept.{ContextFits, read_kept}
use Rattle.meaning.proofs.Taken.{read-formed}
use Rattle.replies.specs.Told.{told_by, told_of}
use Rattle.finder.specs.Claims.{Finds}
use Rattle.finder.specs.Later.{Follows}
use Rattle.finder.proofs.Later.{followed-one}
use Rattle.replies.specs.declared.Outcome.{Outcome}
use Rattle.replies.specs.declared.Outcome.TheVariants as O
use Rattle.replies.specs.declared.Reply.{Reply}
use Rattle.normaliser.specs.Claims.{written_by, normal_limit}
use Rattle.std.specs.Prelude.{Result, Ok, Err}
use Rattle.boundary.specs.Claims.{rows_after, Answers, Proceeds, Settles}
use Rattle.boundary.specs.Packs.{packed_by, packed_outcome, handed_by, Told, Small, packed_answer}

-- ---- the finder

told-packed : (o : Outcome) (r : M.Reply) → told_by o ≡ told_of r → packed_outcome o ≡ packed_reply r
unfolding packed_reply
told-packed (O.Breach n) (breach a) e = let h : n ≡ length a = cc in omega arith
told-packed (O.Breach n) none e = absurd (let z : ◌≡◌ {A = ℕ} 8 9 = cc in omega arith)
told-packed (O.Breach n) (refused f) e = absurd (let z : ◌≡◌ {A = ℕ} 8 10 = cc in omega arith)
told-packed O.Clear (breach a) e = absurd (let z : ◌≡◌ {A = ℕ} 9 8 = cc in omega arith)
told-packed O.Clear none e = refl
told-packed O.Clear (refused f) e = absurd (let z : ◌≡◌ {A = ℕ} 9 10 = cc in omega arith)
told-packed (O.Refused x) (breach a) e = absurd (let z : ◌≡◌ {A = ℕ} 10 8 = cc in omega arith)
told-packed (O.Refused x) none e = absurd (let z : ◌≡◌ {A = ℕ} 10 9 = cc in omega arith)
told-packed (O.Refused x) (refused f) e =
    let n : x.number ≡ f.number = cc in
    let p : x.line ≡ f.place = cc in
    let o : x.offset ≡ f.offset = cc in
    omega arith

told-handed : (o : Outcome) (r : M.Reply) → told_by o ≡ told_of r → (rows : List ℕ) → handed_by o (places_of r) rows ≡ rows_after r rows
unfolding rows_after
told-handed (O.Breach n) (breach a) e rows = refl
told-handed (O.Breach n) none e rows = absurd (let z : ◌≡◌ {A = ℕ} 8 9 = cc in omega arith)
told-handed (O.Breach n) (refused f) e rows = absurd (let z : ◌≡◌ {A = ℕ} 8 10 = cc in omega arith)
told-handed O.Clear (breach a) e rows = absurd (let z : ◌≡◌ {A = ℕ} 9 8 = cc in omega arith)
told-handed O.Clear none e rows = refl
told-handed O.Clear (refused f) e rows = absurd (let z : ◌≡◌ {A = ℕ} 9 10 = cc in omega arith)
told-handed (O.Refused x) (breach a) e rows = absurd (let z : ◌≡◌ {A = ℕ} 10 8 = cc in omega arith)
told-handed (O.Refused x) none e rows = absurd (let z : ◌≡◌ {A = ℕ} 10 9 = cc in omega arith)
told-handed (O.Refused x) (refused f) e rows = refl

pub answers-found : (text : List ℕ) (r : Reply) → Finds text r → (rows after : List ℕ) (number : ℕ) → Told r rows number after → Answers text rows number after
answers-found text r w rows after number t =
    record {
      reply = w.reply;
      replies = w.replies;
      packed = t.packed ∙ told-packed r.outcome w.reply w.told;
      handed = t.handed ∙ ap (λ (l : List ℕ). handed_by r.outcome l rows) w.places ∙ told-handed r.outcome w.reply w.told rows;
    }

pub answers_one : (text rows : List ℕ) (m n : ℕ) (s t : List ℕ) → Answers text rows m s → Answers text rows n t → (m ≡ n) × (s ≡ t)
answers_one text rows m n s t p q =
    let e : p.reply ≡ q.reply = replies-one narrow text p.reply q.reply p.replies q.replies in
    (p.packed ∙ ap packed_reply e ∙ sym q.packed, p.handed ∙ ap (λ (r : M.Reply). rows_after r rows) e ∙ sym q.handed)

pub proceeds-found : (text rows : List ℕ) (r : Reply) → Follows text rows r → (after : List ℕ) (number : ℕ) → Told r rows number after → Proceeds text rows number after
proceeds-found text rows r w after number t =
    record {
      reply = w.reply;
      replies = w.replies;
      packed = t.packed ∙ told-packed r.outcome w.reply w.told;
      handed = t.handed ∙ ap (λ (l : List ℕ). handed_by r.outcome l rows) w.places ∙ told-handed r.outcome w.reply w.told rows;
    }

pub proceeds-one : (text rows : List ℕ) (m n : ℕ) (s t : List ℕ) → Proceeds text rows m s → Proceeds text rows n t → (m ≡ n) × (s ≡ t)
proceeds-one text rows m n s t p q =
    let e : p.reply ≡ q.reply = followed-one text rows p.reply q.reply p.replies q.replies in
    (p.packed ∙ ap packed_reply e ∙ sym q.packed, p.handed ∙ ap (λ (r : M.Reply). rows_after r rows) e ∙ sym q.handed)

-- ---- the normaliser

-- a context without rows has every table for its representatives, the table of the rows themselves among them
represented-few : (c : Context) → ContextFits narrow c → Fit c → (rep : ℕ → ℕ) → Representatives c rep
    → length (context_text (normal_of rep c)) ≤ normal_limit
represented-few c kept fit rep w = go c.rows refl
  where
    go : (l : List Row) → c.rows ≡ l → length (context_text (normal_of rep c)) ≤ normal_limit
    go (r ∷ l) e = normal-bytes rep c kept (let h : length c.rows ≡ suc (length l) = ap length e in omega (arith, (w 0 (omega arith)).least 0 (omega arith) reflexive))
    go [] e =
        let h : length c.rows ≡ 0 = ap length e in
        let same : normal_of rep c ≡ normal_of (λ i. i) c = normal-one c rep (λ i. i) w (λ i k. absurd (omega arith)) fit in
        subst (λ (d : Context). length (context_text d) ≤ normal_limit) (sym same) (normal-bytes (λ i. i) c kept refl)

settled-few : (c : Context) → ContextFits narrow c → Fit c → (text : List ℕ) → Settled c (normal text) → length text ≤ normal_limit
settled-few c kept fit text (settles consistent t w) =
    subst (λ (s : List ℕ). length s ≤ normal_limit) (sym w.2) (represented-few c kept fit w.0 w.1)

normalises-few : (text out : List ℕ) → Normalises narrow text (normal out) → length out ≤ normal_limit
normalises-few text out = go (read narrow text) refl
  where
    go : (x : T.Reading) → read narrow text ≡ x → NormalisesTo x (normal out) → length out ≤ normal_limit
    go (faulty f) e w = absurd (let z : ◌≡◌ {A = ℕ} 0 1 = cc in omega arith)
    go (taken s) e w = settled-few s.ledger.context (read_kept narrow text s e).context_fits (read-formed narrow text s e).fit out w

wrote-few : (text lent after : List ℕ) (r : Normalised) (a : M.Written) (n : ℕ) → Normalises narrow text r → Leaves lent r a after → a ≡ M.wrote n → n ≤ normal_limit
wrote-few text lent after r a n w (fits out h) e = let k : length out ≡ n = cc in omega (arith, normalises-few text out w)
wrote-few text lent after r a n w (short out h) e = absurd (let z : ◌≡◌ {A = ℕ} 0 1 = cc in omega arith)
wrote-few text lent after r a n w (stays f) e = absurd (let z : ◌≡◌ {A = ℕ} 0 1 = cc in omega arith)

pub wrote-small : (text lent after : List ℕ) (r : Result ℕ Refusal) → Writes narrow text lent (written_by r) after → Small r
wrote-small text lent after r w = record { few = λ n e. wrote-few text lent after w.result (written_by r) n w.normalises w.leaves (ap written_by e) }

answer-packed : (r : Result ℕ Refusal) → packed_answer r ≡ packed_written (written_by r)
unfolding packed_written
answer-packed (Ok n) = refl
answer-packed (Err x) = refl

pub settles-written : (text lent after : List ℕ) (r : Result ℕ Refusal) → Writes narrow text lent (written_by r) after
    → (number : ℕ) → number ≡ packed_answer r → Settles text lent number after
settles-written text lent after r w number e = record { answer = written_by r; writes = w; packed = e ∙ answer-packed r }

pub settles-one : (text lent : List ℕ) (m n : ℕ) (s t : List ℕ) → Settles text lent m s → Settles text lent n t → (m ≡ n) × (s ≡ t)
settles-one text lent m n s t p q =
    let e : (p.answer ≡ q.answer) × (s ≡ t) = writes_one narrow text lent p.answer q.answer s t p.writes q.writes in
    (p.packed ∙ ap packed_written e.0 ∙ sym q.packed, e.1)

-- ---- the parts

pub pack-breach : (o : Outcome) (n : ℕ) → o ≡ O.Breach n → 8 + 256 * n ≡ packed_outcome o
pack-breach o n e = sym (ap packed_outcome e)

pub pack-refused : (o : Outcome) (x : Refusal) → o ≡ O.Refused x → (m : ℕ) → m ≡ packed_by x → m ≡ packed_outcome o
pack-refused o x e m h = h ∙ sym (ap packed_outcome e)

pub pack-wrote : (r : Result ℕ Refusal) (n : ℕ) → r ≡ Ok n → 256 * n ≡ packed_answer r
pack-wrote r n e = sym (ap packed_answer e)

pub pack-unwritten : (r : Result ℕ Refusal) (x : Refusal) → r ≡ Err x → (m : ℕ) → m ≡ packed_by x → m ≡ packed_answer r
pack-unwritten r x e m h = h ∙ sym (ap packed_answer e)

pub wrote-fits : (r : Result ℕ Refusal) (n : ℕ) → Small r → r ≡ Ok n → Fits w64 (256 * n)
wrote-fits r n h e = omega (arith, h.few n e)

pub ruleset mine = (rules, answers-found, proceeds-found, wrote-small, settles-written, pack-breach, pack-refused, pack-wrote, pack-unwritten, wrote-fits)
