-- Laws of copying the further words of parents, either way.
-- Assumes nothing.
use Rattle.std.proofs.Common.{◌≡◌, sym, ℕ, ◌+◌, ◌*◌, ◌≤◌, ◌<◌, Bool, true, false, List, length, set, arith}
use Rattle.std.proofs.lemmas.Bool.{false≢true}
use Rattle.words.specs.Words.{at}
use Rattle.work_layout.specs.Layout.{COUNTS, PARENTS, SEEN, ENTRIES, MAX_PARENTS}
use Rattle.work_layout.specs.Rows.{links_at, further, all_further}
use Rattle.work_layout.specs.Parents.{LinksSet}
use Rattle.cache_undo.specs.cache_copy.Effects.{ListCopied, ListsCopied}
use Rattle.cache_undo.proofs.cache_copy.SaveLaws.{list_saved_more, lists_saved_none, lists_saved_more}
use Rattle.cache_undo.proofs.cache_copy.BringLaws.{list_brought_more, lists_brought_none, lists_brought_more}

-- ---- one word more of one entry

pub word_saved : (s : Bool) → s ≡ true → (w w₁ : List ℕ) (e i place v : ℕ) → e < ENTRIES → 2 * (i + 1) < MAX_PARENTS → SEEN ≤ place → place + i < length w
    → v ≡ links_at w₁ e (i + 1) → ListCopied s w w₁ e i place → ListCopied s w (set w₁ (place + i) v) e (i + 1) place
word_saved true q w w₁ e i place v h l o room x c = list_saved_more w w₁ e i place v h l o room x c
word_saved false q w w₁ e i place v h l o room x c = absurd (false≢true q)

pub word_brought : (s : Bool) → s ≡ false → (w w₁ w₂ : List ℕ) (e i place v : ℕ) → e < ENTRIES → SEEN ≤ place
    → v ≡ at w₁ (place + i) → ListCopied s w w₁ e i place → LinksSet w₁ w₂ e (i + 1) v → ListCopied s w w₂ e (i + 1) place
word_brought true q w w₁ w₂ e i place v h o x c d = absurd (false≢true (sym q))
word_brought false q w w₁ w₂ e i place v h o x c d = list_brought_more w w₁ w₂ e i place v h o x c d

-- ---- one entry more

pub lists_none : (s : Bool) (w : List ℕ) (place : ℕ) → ListsCopied s w w 0 place
lists_none true w place = lists_saved_none w place
lists_none false w place = lists_brought_none w place

-- What lies before the parents is as it was.
pub lists_still : (s : Bool) (w w₁ : List ℕ) (e place : ℕ) → SEEN ≤ place → ListsCopied s w w₁ e place → (j : ℕ) → j < PARENTS → at w₁ j ≡ at w j
lists_still true w w₁ e place o c j l = c.low j (omega arith)
lists_still false w w₁ e place o c j l = c.low j l

pub lists_more : (s : Bool) (w w₁ w₂ : List ℕ) (e n place next : ℕ) → e < ENTRIES → n ≡ further (at w (COUNTS + e)) → 2 * n < MAX_PARENTS → SEEN ≤ place
    → next ≡ place + all_further w e → ListsCopied s w w₁ e place → ListCopied s w₁ w₂ e n next → ListsCopied s w w₂ (e + 1) place
lists_more true w w₁ w₂ e n place next h q few o p c d = lists_saved_more w w₁ w₂ e n place next h q few o p c d
lists_more false w w₁ w₂ e n place next h q few o p c d = lists_brought_more w w₁ w₂ e n place next h q o p c d
