-- The entries of a unit's list, one after another.
use Rattle.std.proofs.Common.{◌≡◌, ℕ, ◌<◌, Bool, true, false, cond, ◌||◌, nat_eq, List, [], ◌∷◌, ◌++◌, length, Option, Some, None, refl, ap, sym, ◌∙◌, subst, arith, append_assoc}
use Rattle.std.specs.Prelude.{is_some}
use Rattle.std.proofs.lemmas.Bool.{eq-eqb, eqb-true, or_parts}
use Rattle.asm_unit.specs.declared.held.Held.{Held}
use Rattle.entry_list.specs.declared.node.Node.{Node}
use Rattle.entry_list.specs.Listed.{values_of, has_key, AreDistinct, first_key}
use Rattle.entry_list.specs.Nodes.{node_from, node_at}
use Rattle.entry_list.proofs.NodeLaws.{node_there}
use Rattle.asm_writer.specs.Unit.{entry_text, unit_text, IsWritable, AreWritable}

-- the pairs from that of a key on
unfoldable pub from_key : Option ℕ → List (ℕ × Held) → List (ℕ × Held)
from_key None ps = []
from_key (Some k) [] = []
from_key (Some k) (p ∷ ps) = cond (nat_eq p.0 k) (p ∷ ps) (from_key (Some k) ps)

pub from_first : (ps : List (ℕ × Held)) → from_key (first_key ps) ps ≡ ps
unfolding from_key
from_first [] = refl
from_first (p ∷ ps) = ap (λ b. cond b (p ∷ ps) (from_key (Some p.0) ps)) (eq-eqb p.0 p.0 refl)

some_is_none : {A : Type 0} {P : Type 0} (x : A) → Some x ≡ None → P
some_is_none x e = absurd (cc)

-- from a key that isn't there nothing is
from_none : (k : ℕ) (ps : List (ℕ × Held)) → has_key k ps ≡ false → from_key (Some k) ps ≡ []
unfolding from_key
from_none k [] h = refl
from_none k (p ∷ ps) h =
    let w = or_parts (nat_eq p.0 k) (has_key k ps) h in
    ap (λ b. cond b (p ∷ ps) (from_key (Some k) ps)) w.0 ∙ from_none k ps w.1

-- a pair of another key is passed
past : (p : ℕ × Held) (ps : List (ℕ × Held)) (o : Option ℕ) → has_key p.0 ps ≡ false → o ≡ first_key (from_key o ps) → from_key o (p ∷ ps) ≡ from_key o ps
unfolding from_key
past p ps None h f = refl
past p ps (Some k) h f = by_test (nat_eq p.0 k) refl
  where
    by_test : (b : Bool) → nat_eq p.0 k ≡ b → cond b (p ∷ ps) (from_key (Some k) ps) ≡ from_key (Some k) ps
    by_test true g =
        let same : p.0 ≡ k = eqb-true p.0 k g in
        some_is_none k (f ∙ ap first_key (from_none k ps (ap (λ j. has_key j ps) (sym same) ∙ h)))
    by_test false g = refl

-- where the walk stands, a pair is
has_from : (k : ℕ) (ps : List (ℕ × Held)) → Some k ≡ first_key (from_key (Some k) ps) → has_key k ps ≡ true
unfolding from_key
has_from k [] e = some_is_none k e
has_from k (p ∷ ps) e = by_test (nat_eq p.0 k) e (has_from k ps)
  where
    by_test : (b : Bool) → Some k ≡ first_key (cond b (p ∷ ps) (from_key (Some k) ps)) → (Some k ≡ first_key (from_key (Some k) ps) → has_key k ps ≡ true) → b || has_key k ps ≡ true
    by_test true q rest = refl
    by_test false q rest = rest q

pub node_where : (ps : List (ℕ × Held)) (o : Option ℕ) (k : ℕ) → o ≡ Some k → o ≡ first_key (from_key o ps) → is_some (node_at ps k) ≡ true
node_where ps o k is there = node_there None ps k ∙ has_from k ps (sym is ∙ there ∙ ap (λ o. first_key (from_key o ps)) is)

-- the node at hand, and the pairs behind it
pub record Visit (ps : List (ℕ × Held)) (k : ℕ) (n : Node Held) : Type 0 where
  pub rest : List (ℕ × Held)
  pub is : values_of (from_key (Some k) ps) ≡ n.value ∷ values_of rest
  pub next : n.next ≡ first_key rest
  pub behind : from_key n.next ps ≡ rest

visit_from : (before : Option ℕ) (ps : List (ℕ × Held)) (k : ℕ) (n : Node Held) → AreDistinct ps → node_from before ps k ≡ Some n → Visit ps k n
unfolding from_key
visit_from before [] k n d e = some_is_none n (sym e)
visit_from before (p ∷ ps) k n d e = by_test (nat_eq p.0 k) refl e (visit_from (Some p.0) ps k n d.1)
  where
    from_next : (rest : List (ℕ × Held)) → n.next ≡ first_key rest → from_key n.next ps ≡ rest → from_key n.next (p ∷ ps) ≡ rest
    from_next rest first from = past p ps n.next d.0 (first ∙ ap first_key (sym from)) ∙ from

    by_test : (b : Bool) → nat_eq p.0 k ≡ b → cond b (Some (record { value = p.1; prev = before; next = first_key ps })) (node_from (Some p.0) ps k) ≡ Some n
        → (node_from (Some p.0) ps k ≡ Some n → Visit ps k n) → Visit (p ∷ ps) k n
    by_test true g q rest =
        let same : record { value = p.1; prev = before; next = first_key ps } ≡ n = cc in
        let next : n.next ≡ first_key ps = sym (ap (λ m. m.next) same) in record {
          rest = ps;
          is = ap (λ b. values_of (cond b (p ∷ ps) (from_key (Some k) ps))) g ∙ ap (λ m. m.value ∷ values_of ps) same;
          next = next;
          behind = from_next ps next (ap (λ o. from_key o ps) next ∙ from_first ps);
        }
    by_test false g q rest =
        let v = rest q in record {
          rest = v.rest;
          is = ap (λ b. values_of (cond b (p ∷ ps) (from_key (Some k) ps))) g ∙ v.is;
          next = v.next;
          behind = from_next v.rest v.next v.behind;
        }

pub visit : (ps : List (ℕ × Held)) (k : ℕ) (n : Node Held) → AreDistinct ps → node_at ps k ≡ Some n → Visit ps k n
visit ps k n d e = visit_from None ps k n d e

writable_from : (text : List ℕ) (before : Option ℕ) (ps : List (ℕ × Held)) (k : ℕ) (n : Node Held) → AreWritable text (values_of ps) → node_from before ps k ≡ Some n → IsWritable text n.value.entry.kind n.value.span
writable_from text before [] k n w e = some_is_none n (sym e)
writable_from text before (p ∷ ps) k n w e = by_test (nat_eq p.0 k) e (writable_from text (Some p.0) ps k n w.1)
  where
    by_test : (b : Bool) → cond b (Some (record { value = p.1; prev = before; next = first_key ps })) (node_from (Some p.0) ps k) ≡ Some n
        → (node_from (Some p.0) ps k ≡ Some n → IsWritable text n.value.entry.kind n.value.span) → IsWritable text n.value.entry.kind n.value.span
    by_test true q rest =
        let same : record { value = p.1; prev = before; next = first_key ps } ≡ n = cc in
        subst (λ m. IsWritable text m.value.entry.kind m.value.span) same w.0
    by_test false q rest = rest q

pub node_writable : (text : List ℕ) (ps : List (ℕ × Held)) (k : ℕ) (n : Node Held) → AreWritable text (values_of ps) → node_at ps k ≡ Some n → IsWritable text n.value.entry.kind n.value.span
node_writable text ps k n w e = writable_from text None ps k n w e

-- the text from a key on is that of the node at hand, and that from the next on
pub text_split : (text : List ℕ) (ps : List (ℕ × Held)) (o : Option ℕ) (k : ℕ) (n : Node Held) (v : Visit ps k n) → o ≡ Some k
    → unit_text text (values_of (from_key o ps)) ≡ entry_text text n.value.entry.kind n.value.span ++ unit_text text (values_of (from_key n.next ps))
text_split text ps o k n v is =
    ap (λ o. unit_text text (values_of (from_key o ps))) is
    ∙ ap (unit_text text) v.is
    ∙ ap (λ qs. entry_text text n.value.entry.kind n.value.span ++ unit_text text (values_of qs)) (sym v.behind)

pub next_there : (ps : List (ℕ × Held)) (k : ℕ) (n : Node Held) (v : Visit ps k n) → n.next ≡ first_key (from_key n.next ps)
next_there ps k n v = v.next ∙ ap first_key (sym v.behind)

pub shorter : (ps : List (ℕ × Held)) (o : Option ℕ) (k : ℕ) (n : Node Held) (v : Visit ps k n) → o ≡ Some k → length (values_of (from_key n.next ps)) < length (values_of (from_key o ps))
shorter ps o k n v is =
    let now : length (values_of (from_key o ps)) ≡ length (n.value ∷ values_of v.rest) = ap (λ o. length (values_of (from_key o ps))) is ∙ ap length v.is in
    let later : length (values_of (from_key n.next ps)) ≡ length (values_of v.rest) = ap (λ qs. length (values_of qs)) v.behind in
    omega (arith, now, later)

pub none_left : (text : List ℕ) (ps : List (ℕ × Held)) (o : Option ℕ) → o ≡ None → unit_text text (values_of (from_key o ps)) ≡ []
unfolding from_key
none_left text ps o is = ap (λ o. unit_text text (values_of (from_key o ps))) is

-- one entry more was passed
pub whole_passed : (done put waits run here rest left all : List ℕ) → put ++ waits ≡ run ++ here → left ≡ here ++ rest → done ++ (run ++ left) ≡ all → (done ++ put) ++ (waits ++ rest) ≡ all
whole_passed done put waits run here rest left all e f g =
    append_assoc done put (waits ++ rest)
    ∙ ap (λ l. done ++ l) (sym (append_assoc put waits rest) ∙ ap (λ l. l ++ rest) e ∙ append_assoc run here rest ∙ ap (λ l. run ++ l) (sym f))
    ∙ g

pub whole_cut : (done run here rest left all : List ℕ) → left ≡ here ++ rest → done ++ (run ++ left) ≡ all → done ++ ((run ++ here) ++ rest) ≡ all
whole_cut done run here rest left all f g = ap (λ l. done ++ l) (append_assoc run here rest ∙ ap (λ l. run ++ l) (sym f)) ∙ g
