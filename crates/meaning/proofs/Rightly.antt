-- The demands hold of whatever answers as defined.
--     RepliesRightly, WritesRightly                           a finder, and a normaliser, that answers every text as defined
--     right-refuses, right-finds, right-leaves, right-keeps   it meets the demands
--     demands-reply                                           and a finder that meets demands 1 and 2 replies as defined
-- Assumes nothing.
use mathlib.Core.List.{List}
use mathlib.Core.Path.{◌≡◌, refl, ap₂, ◌∙◌, subst}
use mathlib.Core.Logic.{◌↔◌}
use Prim.Native.Nat.{ℕ}
use native.Mathlib.Omega.{arith}
use Rattle.meaning.specs.Rules.{found, nothing}
use Rattle.meaning.specs.Text.{narrow, Refusal}
use Rattle.meaning.specs.Replies.{Replies, Writes, Reply, refused, reply_of, breach, none, Normalised, Written, Leaves, unwritten, fits, short, stays}
use Rattle.meaning.specs.Demands.{Finder, Normaliser, RefusesRightly, FindsFirst, LeavesRightly, Gives, KeepsMeaning}
use Rattle.meaning.proofs.Computed.{normalise}
use Rattle.meaning.proofs.Demanded.{keeps-meaning}
use Rattle.meaning.proofs.Answered.{replies-one, writes_one, normalise-writes}

abbrev pub RepliesRightly : Finder → Type 0
RepliesRightly f = (text : List ℕ) → Replies narrow text (f text)

abbrev pub WritesRightly : Normaliser → Type 0
WritesRightly n = (text lent : List ℕ) → Writes narrow text lent (n text lent).0 (n text lent).1

reply-exactly : (f : Finder) → RepliesRightly f → (text : List ℕ) (r : Reply) → (f text ≡ r) ↔ Replies narrow text r
reply-exactly f w text r = (λ e. subst (Replies narrow text) e (w text), λ p. replies-one narrow text (f text) r (w text) p)

pub right-refuses : (f : Finder) → RepliesRightly f → RefusesRightly f
right-refuses f w text r = reply-exactly f w text (refused r)

pub right-finds : (f : Finder) → RepliesRightly f → FindsFirst f
right-finds f w text r = reply-exactly f w text (reply_of r)

pub demands-reply : (f : Finder) → RefusesRightly f → FindsFirst f → RepliesRightly f
demands-reply f d e text = go (f text) refl
  where
    go : (r : Reply) → f text ≡ r → Replies narrow text r
    go (breach a) q = (e text (found a)).0 q
    go none q = (e text nothing).0 q
    go (refused r) q = (d text r).0 q

leaves-lent : (lent after : List ℕ) (x : Normalised) (a : Written) (r : Refusal) → Leaves lent x a after → a ≡ unwritten r → after ≡ lent
leaves-lent lent after x a r (fits text h) e = absurd (let z : ◌≡◌ {A = ℕ} 0 1 = cc in omega arith)
leaves-lent lent after x a r (short text h) e = refl
leaves-lent lent after x a r (stays q) e = refl

pub right-leaves : (n : Normaliser) → WritesRightly n → LeavesRightly n
right-leaves n w =
    record {
      refuses = λ text lent r. (
        λ e. moved text lent r e,
        λ p. (writes_one narrow text lent (n text lent).0 (unwritten r) (n text lent).1 lent (w text lent) p).0,
      );
      leaves = λ text lent r e. leaves-lent lent (n text lent).1 (w text lent).result (n text lent).0 r (w text lent).leaves e;
    }
  where
    moved : (text lent : List ℕ) (r : Refusal) → (n text lent).0 ≡ unwritten r → Writes narrow text lent (unwritten r) lent
    moved text lent r e =
        let q : (n text lent).1 ≡ lent = leaves-lent lent (n text lent).1 (w text lent).result (n text lent).0 r (w text lent).leaves e in
        rw (e, q) at (w text lent)

-- two normalisers that answer as defined give the same texts
same_gives : (n m : Normaliser) → WritesRightly n → WritesRightly m → (s u : List ℕ) → Gives n s u → Gives m s u
same_gives n m w v s u g lent h =
    let q : ((m s lent).0 ≡ (n s lent).0) × ((m s lent).1 ≡ (n s lent).1) = writes_one narrow s lent (m s lent).0 (n s lent).0 (m s lent).1 (n s lent).1 (v s lent) (w s lent) in
    ap₂ (λ (x : Written) (y : List ℕ). (x, y)) q.0 q.1 ∙ g lent h

pub right-keeps : (n : Normaliser) → WritesRightly n → KeepsMeaning n
right-keeps n w =
    record {
      gives = λ s c p. ((keeps-meaning.gives s c p).0, back s (keeps-meaning.gives s c p).0 (keeps-meaning.gives s c p).1);
      agree = λ s t u v c d p q e g h. keeps-meaning.agree s t u v c d p q e (to s u g) (to t v h);
      twice = λ s u c p g. ((keeps-meaning.twice s u c p (to s u g)).0, back u u (keeps-meaning.twice s u c p (to s u g)).1);
      rules = λ s u v c d p g q. keeps-meaning.rules s u v c d p (to s u g) q;
      replies = λ s u v c d p g q. keeps-meaning.replies s u v c d p (to s u g) q;
    }
  where
    to : (s u : List ℕ) → Gives n s u → Gives normalise s u
    to s u = same_gives n normalise w normalise-writes s u

    back : (s u : List ℕ) → Gives normalise s u → Gives n s u
    back s u = same_gives normalise n normalise-writes w s u
