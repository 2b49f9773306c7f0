-- The read-back theorem of a session file's bytes. The file passes questions 2 to 8; handles are added to a fresh session of it, under 01's premises
-- (`Apart`), with 12 and 13 asked before each item over an output of at most 65,535 bytes. If the session is finished then, the reading call's definition
-- accepts the output to its last byte, and the root names the plain filling's whole tree.
-- Assumes nothing.
use Rattle.std.specs.Prelude.{ℕ, ◌+◌, ◌^◌, ◌≤◌, ◌<◌, ◌≡◌, refl, Bool, true, false, cond, List, [], ◌∷◌, ◌++◌, map, ltb, length}
use Rattle.std.proofs.Math.Option.{none}
use Rattle.std.proofs.Common.{arith, ltb-false}
use Rattle.spec_session.proofs.Counts.{total_more}
use Rattle.words.specs.Lists.{Bytes}
use Rattle.spec_session.specs.File.{File, Limits, got, file}
use Rattle.spec_session.specs.Unfold.{unfolded}
use Rattle.spec_session.specs.Premises.{Apart}
use Rattle.spec_session.specs.Items.{Item, item_size, size_of}
use Rattle.spec_session.specs.Writer.{Todo, Session, start, added, add_all}
use Rattle.spec_session.specs.Steps.{too_deep, room_in}
use Rattle.spec_session.specs.FindPath.{find_in}
use Rattle.spec_session.proofs.FindPathLaws.{Covers, find_near}
use Rattle.spec_session.proofs.Kept.{session_kept}
use Rattle.spec_session.proofs.Formed.{Atom, count_size, items_formed, items_bytes}
use Rattle.spec_session.proofs.FileAtoms.{all_leaves, read_atoms}
use Rattle.spec_session.proofs.TheoremBytes.{BytesReadBack, read_back_bytes}

-- An item that 12 and 13 let through fits.
pub room_holds : (space : ℕ) (k : List Todo) (items : List Item) (i : Item) → size_of items ≤ space → room_in space k items i ≡ 0 → size_of (items ++ i ∷ []) ≤ space
room_holds space k items i h e = go (too_deep i k) (ltb space (size_of items + item_size i)) refl e
  where
    go : (d b : Bool) → ltb space (size_of items + item_size i) ≡ b → ◌≡◌ {A = ℕ} (cond d 12 (cond b 13 0)) 0 → size_of (items ++ i ∷ []) ≤ space
    go true b q e = absurd (omega arith)
    go false true q e = absurd (omega arith)
    go false false q e = omega (arith, ltb-false space (size_of items + item_size i) q, total_more item_size items i)

-- Over any limits of the file that a prefix can carry, any measure that covers a path's atom, and any output that the reading call takes.
module _ (l : Limits) (carried : l.file_bytes < 2 ^ 34) (measure : List Bool → ℕ) (covers : Covers measure) (space : ℕ) (most : space ≤ 65535) where
  pub read_back_file : (input : List ℕ) → Bytes input → (f : File) (r : List ℕ) → file l input ≡ got f r
      → (hs : List ℕ) (q : Session) → Apart (map (unfolded f) hs) → add_all (find_in measure) (room_in space) (map (unfolded f) hs) start ≡ added q
      → q.waiting ≡ none → BytesReadBack space f hs q.written.items
  read_back_file input bytes f r file-is hs q apart e fin =
      let kept =
      session_kept Atom (λ (items : List Item). size_of items ≤ space) (find_in measure) (room_in space) (find_near measure) (room_holds space)
      (map (unfolded f) hs) q (all_leaves f (read_atoms l carried input bytes f r file-is) hs) (omega arith) e in
      let few : length q.written.items ≤ 65535 = omega (arith, count_size q.written.items (length q.written.items) kept.fine, kept.held) in
      read_back_bytes measure covers (room_in space) f hs q apart e fin
      (items_formed (length q.written.items) few q.written.items kept.fine)
      (items_bytes (length q.written.items) few q.written.items kept.fine)
      space most kept.held
