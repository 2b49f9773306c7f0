-- The read-back theorem over bytes: the reading call's definition, the store's reader, accepts the bytes of a finished session, and its root names the plain
-- filling's tree. Two facts of the items are premises here: every item has bytes, and they are bytes.
-- Assumes nothing.
use Rattle.std.specs.Prelude.{ℕ, ◌≤◌, ◌≡◌, Bool, List, [], ◌∷◌, map}
use Rattle.std.proofs.Common.{sym, ap, ◌∙◌, subst, arith}
use Rattle.std.proofs.Math.Option.{none, some}
use Rattle.words.specs.Choice.{clash}
use Rattle.words.specs.Lists.{All, Bytes}
use Rattle.spec_reading.specs.Tree.{Tree}
use Rattle.spec_reading.specs.Format.{Read, accepted, turned_down}
use Rattle.spec_reading.specs.Plain.{Plain, read_plain}
use Rattle.spec_reading.specs.Store.{Stored, read_stored}
use Rattle.spec_reading.specs.Names.{NamesHandle}
use Rattle.spec_reading.specs.Call.{root_of}
use Rattle.spec_reading.proofs.Agree.{ReadersAgree, both_turned_down, both_accepted, readers_agree}
use Rattle.spec_session.specs.File.{File}
use Rattle.spec_session.specs.Unfold.{unfolded}
use Rattle.spec_session.specs.Filling.{plain_filling}
use Rattle.spec_session.specs.Premises.{opens, Apart}
use Rattle.spec_session.specs.Items.{Item, size_of, output, read_items, NoLonger}
use Rattle.spec_session.proofs.Output.{output_size}
use Rattle.spec_session.specs.Writer.{Todo, Session, start, added, add_all}
use Rattle.spec_session.specs.FindPath.{find_in}
use Rattle.spec_session.proofs.FindPathLaws.{Covers}
use Rattle.spec_session.proofs.Theorem.{ReadsBack, read_back_measure}
use Rattle.spec_session.proofs.BytesRead.{Formed, bytes_read}

-- The bytes are read to their end, and the root's tree is whole and is the plain filling of the adds; each reference takes at most as many bytes as its
-- subtree in full.
pub record BytesReadBack (space : ℕ) (f : File) (handles : List ℕ) (items : List Item) : Type 0 where
  pub result : Tree
  pub is_whole : opens result ≡ 0
  pub filled : plain_filling f handles ≡ result
  pub items_read : read_items items ≡ some result
  pub stored : Stored
  pub reads : read_stored (output items) ≡ accepted stored
  pub root_named : NamesHandle stored.store (root_of stored.values) result
  pub no_longer : NoLonger items
  pub short : size_of items ≤ space

not_down : (n : ℕ) (p : Plain) (r : Read Plain) → r ≡ turned_down n → r ≡ accepted p → ⊥
not_down n p r e f = clash cc

same_accepted : (p q : Plain) (r : Read Plain) → r ≡ accepted p → r ≡ accepted q → p ≡ q
same_accepted p q r e f = cc

first_tree : (t u : Tree) → ◌≡◌ {A = List Tree} (t ∷ []) (u ∷ []) → t ≡ u
first_tree t u e = cc

module _ (space : ℕ) (most : space ≤ 65535) (f : File) (hs : List ℕ) (items : List Item) (formed : All Formed items) (bytes : Bytes (output items)) (fits : size_of items ≤ space) where
  pub stored_back : ReadsBack f hs items → BytesReadBack space f hs items
  stored_back b = go (readers_agree (output items) bytes (omega (arith, output_size items)))
    where
      plain : (c : ℕ) × (read_plain (output items) ≡ accepted (record { trees = b.result ∷ []; made = c }))
      plain = bytes_read items b.result formed b.reads

      go : ReadersAgree (output items) → BytesReadBack space f hs items
      go (both_turned_down n s p) = absurd (not_down n (record { trees = b.result ∷ []; made = plain.0 }) (read_plain (output items)) p plain.1)
      go (both_accepted s p es ep same) =
          let alike : p ≡ record { trees = b.result ∷ []; made = plain.0 } =
          same_accepted p (record { trees = b.result ∷ []; made = plain.0 }) (read_plain (output items)) ep plain.1 in
          let tree_is : same.tree ≡ b.result = first_tree same.tree b.result (sym same.only_tree ∙ ap (λ (x : Plain). x.trees) alike) in
          record {
            result = b.result;
            is_whole = b.is_whole;
            filled = b.filled;
            items_read = b.reads;
            stored = s;
            reads = es;
            root_named = subst (NamesHandle s.store (root_of s.values)) tree_is same.root_named;
            no_longer = b.no_longer;
            short = fits;
          }

-- With 01's search, and any measure that covers a path's atom.
pub read_back_bytes : (measure : List Bool → ℕ) → Covers measure → (room : List Todo → List Item → Item → ℕ) (f : File) (hs : List ℕ) (q : Session)
    → Apart (map (unfolded f) hs) → add_all (find_in measure) room (map (unfolded f) hs) start ≡ added q → q.waiting ≡ none
    → All Formed q.written.items → Bytes (output q.written.items) → (space : ℕ) → space ≤ 65535 → size_of q.written.items ≤ space
    → BytesReadBack space f hs q.written.items
read_back_bytes measure covers room f hs q apart e fin formed bytes space most fits =
    stored_back space most f hs q.written.items formed bytes fits (read_back_measure measure covers room f hs q apart e fin)
