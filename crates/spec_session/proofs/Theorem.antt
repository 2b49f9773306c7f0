-- The read-back theorem over items, of a file and the handles of its adds. The premises are 01's: `Apart` says that each added tree has at most one open
-- place, counted wherever a shared pair is seen, and that no pair above the sentinel in one of them occurs in a later one.
-- Assumes nothing.
use Rattle.std.specs.Prelude.{◌≡◌, refl, List, [], ◌∷◌, ◌++◌, map, Bool, ℕ}
use Rattle.std.proofs.Common.{ap, sym, ◌∙◌, subst}
use Rattle.std.proofs.Math.Option.{Option, none, some}
use Rattle.words.specs.Choice.{clash}
use Rattle.spec_reading.specs.Tree.{Tree, place}
use Rattle.path.specs.Measure.{counted}
use Rattle.spec_session.specs.File.{File}
use Rattle.spec_session.specs.Unfold.{Unfolded, tree_of, unfolded}
use Rattle.spec_session.specs.Filling.{fill_all, plain_filling}
use Rattle.spec_session.specs.Premises.{opens, Apart}
use Rattle.spec_session.specs.Cache.{Cache}
use Rattle.spec_session.specs.Items.{Item, read_items, NoLonger}
use Rattle.spec_session.specs.Writer.{Todo, Session, start, Added, added, turned_down, add_tree, add_at, onward, add_all}
use Rattle.spec_session.proofs.Trees.{fill_all_closed, fill_all_append}
use Rattle.spec_session.proofs.Lock.{Sound, Short}
use Rattle.spec_session.proofs.ReadBack.{read_back}
use Rattle.spec_session.proofs.Coherence.{trees_coherent}
use Rattle.spec_session.proofs.Closed.{read_closed}
use Rattle.spec_session.specs.FindPath.{find_in}
use Rattle.spec_session.proofs.FindPathLaws.{Covers, find_sound, find_short}
use Rattle.spec_session.proofs.Covering.{counted_covers}

-- The items read as one whole tree, which is the plain filling of the adds; and each reference takes at most as many bytes as its subtree in full.
pub record ReadsBack (f : File) (handles : List ℕ) (items : List Item) : Type 0 where
  pub result : Tree
  pub is_whole : opens result ≡ 0
  pub filled : plain_filling f handles ≡ result
  pub reads : read_items items ≡ some result
  pub no_longer : NoLonger items

map_map : (f : File) (hs : List ℕ) → map tree_of (map (unfolded f) hs) ≡ map (λ h. tree_of (unfolded f h)) hs
map_map f [] = refl
map_map f (h ∷ hs) = ap (λ (ts : List Tree). tree_of (unfolded f h) ∷ ts) (map_map f hs)

filling_is : (f : File) (hs : List ℕ) (t : Tree) → fill_all (map tree_of (map (unfolded f) hs)) place ≡ t → plain_filling f hs ≡ t
unfolding plain_filling
filling_is f hs t e = subst (λ ts. fill_all ts place ≡ t) (map_map f hs) e

map_append : {A B : Type 0} (g : A → B) (xs ys : List A) → map g (xs ++ ys) ≡ map g xs ++ map g ys
map_append g [] ys = refl
map_append {A} {B} g (x ∷ xs) ys = ap (λ (zs : List B). g x ∷ zs) (map_append g xs ys)

-- Once the tree is whole, handles that are fed further are refused and leave it.
pub filling_stays : (f : File) (hs more : List ℕ) (t : Tree) → opens t ≡ 0 → plain_filling f hs ≡ t → plain_filling f (hs ++ more) ≡ t
unfolding plain_filling
filling_stays f hs more t z e =
    ap (λ (ts : List Tree). fill_all ts place) (map_append (λ h. tree_of (unfolded f h)) hs more)
    ∙ fill_all_append (map (λ h. tree_of (unfolded f h)) hs) (map (λ h. tree_of (unfolded f h)) more) place
    ∙ ap (fill_all (map (λ h. tree_of (unfolded f h)) more)) e
    ∙ fill_all_closed (map (λ h. tree_of (unfolded f h)) more) t z

-- For any sound and short search, and any rule of 12 and 13: handles are added to a fresh session of the file, under the premises. If the session is
-- finished then, its items read back.
pub read_back_any : (find : Cache → List ℕ → List ℕ → ℕ → ℕ → Option (List Bool)) (room : List Todo → List Item → Item → ℕ) → Sound find → Short find
    → (f : File) (hs : List ℕ) (q : Session) → Apart (map (unfolded f) hs) → add_all find room (map (unfolded f) hs) start ≡ added q → q.waiting ≡ none
    → ReadsBack f hs q.written.items
read_back_any find room sound short f hs q apart e fin =
    let b = read_back find room sound short (unfolded f) (map (unfolded f) hs) q (trees_coherent f hs) apart e fin in
    record {
      result = b.0;
      is_whole = read_closed q.written.items b.0 b.2;
      filled = filling_is f hs b.0 b.1;
      reads = b.2;
      no_longer = b.3;
    }

-- With 01's search, and any measure that covers a path's atom.
pub read_back_measure : (measure : List Bool → ℕ) → Covers measure → (room : List Todo → List Item → Item → ℕ) (f : File) (hs : List ℕ) (q : Session)
    → Apart (map (unfolded f) hs) → add_all (find_in measure) room (map (unfolded f) hs) start ≡ added q → q.waiting ≡ none
    → ReadsBack f hs q.written.items
read_back_measure measure covers room = read_back_any (find_in measure) room (find_sound measure) (find_short measure covers)

-- With 01's search and measure.
pub read_back_items : (room : List Todo → List Item → Item → ℕ) (f : File) (hs : List ℕ) (q : Session) → Apart (map (unfolded f) hs)
    → add_all (find_in counted) room (map (unfolded f) hs) start ≡ added q → q.waiting ≡ none → ReadsBack f hs q.written.items
read_back_items = read_back_measure counted counted_covers

-- A further add of a finished session is refused with 9, and the items stay.
module _ (find : Cache → List ℕ → List ℕ → ℕ → ℕ → Option (List Bool)) (room : List Todo → List Item → Item → ℕ) where
  -- One add more.
  pub adds_end : (ts : List Unfolded) (t : Unfolded) (s q : Session) → add_all find room ts s ≡ added q
      → add_all find room (ts ++ t ∷ []) s ≡ onward find room (add_tree find room t q) (λ r. added r)
  adds_end [] t s q e =
      let alike : s ≡ q = cc in
      subst (λ r. onward find room (add_tree find room t s) (λ r. added r) ≡ onward find room (add_tree find room t r) (λ r. added r)) alike refl
  adds_end (x ∷ ts) t s q e = go (add_tree find room x s) e (λ r f. adds_end ts t r q f)
    where
      go : (a : Added) → onward find room a (add_all find room ts) ≡ added q
          → ((r : Session) → add_all find room ts r ≡ added q → add_all find room (ts ++ t ∷ []) r ≡ onward find room (add_tree find room t q) (λ r. added r))
          → onward find room a (add_all find room (ts ++ t ∷ [])) ≡ onward find room (add_tree find room t q) (λ r. added r)
      go (added r) e ih = ih r e
      go (turned_down n r) e ih = clash cc

  pub after_finish : (ts : List Unfolded) (t : Unfolded) (q : Session) → add_all find room ts start ≡ added q → q.waiting ≡ none
      → add_all find room (ts ++ t ∷ []) start ≡ turned_down 9 q
  after_finish ts t q e fin =
      adds_end ts t start q e
      ∙ subst (λ o. onward find room (add_at find room t q o) (λ r. added r) ≡ turned_down 9 q) (sym fin) refl
