-- What a repair took off may be given back, and the new record's nodes stand then.
use Rattle.std.proofs.Common.{◌≡◌, ℕ, ◌+◌, ◌<◌, ◌==◌, cond, List, [], ◌∷◌, ◌++◌, refl, sym, ap, ◌∙◌, subst, arith}
use Rattle.std.specs.Prelude.{sum_by}
use Rattle.std.proofs.lemmas.List.Sums.{sum_by-cons, sum_by-append}
use Rattle.psac_ops.specs.declared.plain.Handle.{Handle}
use Rattle.psac_slots.specs.Handles.{Member, slot_times}
use Rattle.psac_slots.specs.Claiming.{times}
use Rattle.psac_slots.proofs.Removed.{member_times}
use Rattle.psac_values.specs.declared.view.ValueView.{ValueView}
use Rattle.psac_values.specs.Steps.{made_handle}
use Rattle.psac_readers.specs.declared.view.ReadersView.{ReadersView}
use Rattle.psac_readers.specs.Chained.{mods_of}
use Rattle.psac_readers.proofs.Links.{sum_map}
use Rattle.psac_marks.specs.declared.view.MarksView.{MarksView}
use Rattle.psac_marks.specs.Steps as marks
use Rattle.psac_marks.proofs.Counted.{times_member}
use Rattle.psac_fork.specs.declared.tables.Pass.{Pass}
use Rattle.psac_record.specs.Kept.{Kept, E, A, W, S, P, R, Stands, made_of, links_of, nodes_in, all_of}
use Rattle.psac_repair.specs.Planted.{slots}
use Rattle.psac_repair.specs.Taking.{taken, given}
use Rattle.psac_repair.specs.Going.{Views, views}
use Rattle.psac_reclaim.specs.Parts.{nodes_of, in_all}
use Rattle.psac_reclaim.specs.Gave.{out_of}
use Rattle.psac_reclaim.specs.Owed.{ValuesOwed, ReadersOwed, MarksOwed}
use Rattle.psac_reclaim.specs.Repaired.{ValuesTraded, LinksTraded, NodesTraded, values_anew, readers_anew, marks_anew}
use Rattle.psac_reclaim.proofs.Owing.{values_owed, links_owed, nodes_owed}
use Rattle.psac_stage.specs.Settling.{Settles}
use Rattle.psac_stage.specs.Reclaiming.{HasRecord, Repairs, IsFresh, Owes, PartsAreOwed}
use Rattle.psac_stage.proofs.Begins.{time_in}

pub all_same : {X : Type 0} (f : Kept → List X) (ks : List Kept) → all_of f ks ≡ in_all f ks
all_same f [] = refl
all_same f (k ∷ ks) = ap (λ z. f k ++ z) (all_same f ks)

pub nodes_same : (k : Kept) → nodes_in k ≡ nodes_of k
nodes_same E = refl
nodes_same (A m r) = nodes_same r
nodes_same (W m v r) = nodes_same r
nodes_same (S n t r) = λ i. n ∷ (nodes_same t i ++ nodes_same r i)
nodes_same (P n l r) = λ i. n ∷ (nodes_same l i ++ nodes_same r i)
nodes_same (R b t) = λ i. b.node ∷ nodes_same t i

pub all_nodes : (ks : List Kept) → all_of nodes_in ks ≡ in_all nodes_of ks
all_nodes [] = refl
all_nodes (k ∷ ks) = λ i. nodes_same k i ++ all_nodes ks i

module _ (x : ℕ) where
  both_times : (n : Handle) (a b : List ℕ) (c d : List Handle) → times x a ≡ slot_times x c → times x b ≡ slot_times x d
      → times x (n.slot ∷ (a ++ b)) ≡ slot_times x (n ∷ (c ++ d))
  both_times n a b c d e f =
      let one : Handle → ℕ = λ (h : Handle). cond (h.slot == x) 1 0 in
      let num : ℕ → ℕ = λ (y : ℕ). cond (y == x) 1 0 in
      let p = sum_by-cons num n.slot (a ++ b) in
      let q = sum_by-append num a b in
      let r = sum_by-cons one n (c ++ d) in
      let s = sum_by-append one c d in
      omega (arith, p, q, r, s, e, f)

  pub slots_times : (k : Kept) → times x (slots k) ≡ slot_times x (nodes_in k)
  slots_times E = refl
  slots_times (A m r) = slots_times r
  slots_times (W m v r) = slots_times r
  slots_times (S n t r) = both_times n (slots t) (slots r) (nodes_in t) (nodes_in r) (slots_times t) (slots_times r)
  slots_times (P n l r) = both_times n (slots l) (slots r) (nodes_in l) (nodes_in r) (slots_times l) (slots_times r)
  slots_times (R b t) =
      let p = sum_by-cons (λ (y : ℕ). cond (y == x) 1 0) b.node.slot (slots t) in
      let r = sum_by-cons (λ (h : Handle). cond (h.slot == x) 1 0) b.node (nodes_in t) in
      let e = slots_times t in
      omega (arith, p, r, e)

  pub all_times : (ks : List Kept) → times x (all_of slots ks) ≡ slot_times x (all_of nodes_in ks)
  all_times [] = refl
  all_times (k ∷ ks) =
      let q = sum_by-append (λ (y : ℕ). cond (y == x) 1 0) (slots k) (all_of slots ks) in
      let s = sum_by-append (λ (h : Handle). cond (h.slot == x) 1 0) (nodes_in k) (all_of nodes_in ks) in
      let e = slots_times k in
      let f = all_times ks in
      omega (arith, q, s, e, f)

pub slot_in : (k : Kept) (n : Handle) → Member n (nodes_in k) → Member n.slot (slots k)
slot_in k n i =
    let e = slots_times n.slot k in
    let a = member_times n (nodes_in k) i in
    time_in n.slot (slots k) (omega (arith, e, a))

module _ (k new : Kept) (p : Views) (q z : Pass) (age : ℕ) (h : HasRecord k p) (r : Repairs k new p (views q)) (s : Settles q z) (fresh : IsFresh age z) where
  values_traded : ValuesTraded (made_of k) (made_of new) (all_of made_of (taken k new)) (all_of made_of (given k new)) p.values q.values.knows
  values_traded = record { traded = r.exchanged.mods; before = h.mods; out = out; young = young }
    where
      out : (g : Handle → ℕ) → sum_by g (out_of q.values.knows) ≡ sum_by g (out_of p.values) + sum_by g (all_of made_of (given k new))
      out g =
          let a = r.values.held g in
          let b = sum_map (made_handle q.values.knows.fixed) g q.values.knows.claims.held in
          let c = sum_map (made_handle p.values.fixed) g p.values.claims.held in
          omega (arith, a, b, c)

      young : (m : Handle) → Member m q.values.knows.claims.held → m.generation < 4294967295
      young m i =
          let y = fresh.1.out m (subst (λ (v : ValueView). Member m v.claims.held) (sym s.values) i) in
          let low = fresh.0 in
          omega (arith, y, low)

  links_traded : LinksTraded (links_of k) (links_of new) r.gone r.made p.readers q.readers.knows
  links_traded = record { traded = r.went.rewired.sums; before = h.links; links = r.went.rewired.relinked.links; sets = sets }
    where
      sets : (m : ℕ) → m < q.readers.knows.mods → Member m (mods_of q.readers.knows.walk)
      sets m l =
          let e = r.went.rewired.relinked.mods in
          let w = r.went.rewired.relinked.walk (λ y. cond (y == m) 1 0) in
          let a = times_member m (mods_of p.readers.walk) (h.sets m (omega (arith, e, l))) in
          time_in m (mods_of q.readers.knows.walk) (omega (arith, w, a))

  pub nodes_traded : NodesTraded (nodes_in k) (nodes_in new) (all_of nodes_in (taken k new)) (all_of nodes_in (given k new)) p.marks q.marks.knows
  nodes_traded = record {
    traded = r.exchanged.nodes;
    before = h.nodes;
    held = r.swapped.held;
    undropped = h.undropped;
    dropped = λ x. let a = r.swapped.dropped x in let b = all_times x (taken k new) in omega (arith, a, b);
    above = λ o x i d e. (r.beside.rooted.kept o x i d e).0;
    unmarked = λ n i. r.went.replanted.unmarked n.slot (slot_in new n i);
    young = young;
  }
    where
      young : (m : Handle) → Member m q.marks.knows.claims.held → m.generation < 4294967295
      young m i =
          let y = fresh.2.out m (subst (λ (v : MarksView). Member m v.claims.held) (sym s.marks) i) in
          let low = fresh.0 in
          omega (arith, y, low)

  owed_values : ValuesOwed (made_of new) (in_all made_of (taken k new)) z.values.knows
  owed_values =
      let a = values_owed (made_of k) (made_of new) (all_of made_of (taken k new)) (all_of made_of (given k new)) p.values q.values.knows s.mods values_traded in
      subst (λ (v : ValueView). ValuesOwed (made_of new) (in_all made_of (taken k new)) v) (sym s.values)
      (subst (λ (g : List Handle). ValuesOwed (made_of new) g (values_anew s.mods q.values.knows)) (all_same made_of (taken k new)) a)

  owed_links : ReadersOwed (links_of new) (in_all links_of (taken k new)) z.readers.knows
  owed_links =
      let a = links_owed (links_of k) (links_of new) r.gone r.made p.readers q.readers.knows s.links links_traded in
      subst (λ (v : ReadersView). ReadersOwed (links_of new) (in_all links_of (taken k new)) v) (sym s.readers)
      (subst (λ (g : List Stands). ReadersOwed (links_of new) g (readers_anew s.links q.readers.knows)) (r.went.gone_is ∙ all_same links_of (taken k new)) a)

  pub owed_nodes : MarksOwed (nodes_of new) (in_all nodes_of (taken k new)) z.marks.knows
  owed_nodes =
      let holds = subst (λ (v : MarksView). marks.Holds v) s.marks s.holds_nodes in
      let closed = subst (λ (v : MarksView). marks.IsClosed v) s.marks s.closed in
      let a = nodes_owed (nodes_in k) (nodes_in new) (all_of nodes_in (taken k new)) (all_of nodes_in (given k new)) p.marks q.marks.knows s.nodes nodes_traded holds closed in
      subst (λ (v : MarksView). MarksOwed (nodes_of new) (in_all nodes_of (taken k new)) v) (sym s.marks)
      (subst (λ (g : List Handle). MarksOwed (nodes_of new) g (marks_anew s.nodes q.marks.knows)) (all_nodes (taken k new)) (subst (λ (g : List Handle). MarksOwed g (all_of nodes_in (taken k new)) (marks_anew s.nodes q.marks.knows)) (nodes_same new) a))

  pub owes : Owes new (taken k new) z
  owes = record {
    sole = ((0, ap (λ (v : ValueView). v.claims.counter) s.values), (0, ap (λ (v : ReadersView). v.claims.counter) s.readers), (0, ap (λ (v : MarksView). v.claims.counter) s.marks));
    values = owed_values;
    readers = owed_links;
    marks = owed_nodes;
  }

pub parts_owed : PartsAreOwed
parts_owed k new p q z age h r s f = owes k new p q z age h r s f
