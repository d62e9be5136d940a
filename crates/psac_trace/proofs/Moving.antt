-- From one pass to another, over one call after another, and over both sides of a fork.
use Rattle.std.specs.Prelude.{sum_by}
use Rattle.std.proofs.Common.{◌≡◌, ℕ, ◌+◌, ◌≤◌, ◌<◌, Bool, false, List, [], ◌∷◌, ◌++◌, map, length, Option, refl, ap, sym, ◌∙◌, subst, inl, arith, length-append}
use Rattle.psac_ops.specs.declared.plain.Handle.{Handle}
use Rattle.psac_syntax.specs.declared.program.Stmt.{Stmt}
use Rattle.psac_slots.specs.Branches.{stem}
use Rattle.psac_slots.specs.Handles.{Member, word_of}
use Rattle.psac_slots.specs.Claiming as claiming
use Rattle.psac_slots.specs.Claiming.{times, entry}
use Rattle.psac_slots.specs.declared.view.ClaimView.{ClaimView}
use Rattle.psac_slots.proofs.Turns.{stem_push}
use Rattle.psac_values.specs.declared.view.ValueView.{ValueView}
use Rattle.psac_values.specs.Steps as values
use Rattle.psac_values.specs.Steps.{Lacks, new_owned}
use Rattle.psac_values.specs.Knowing.{Has as MayWrite, Claims, United, wrote}
use Rattle.psac_readers.specs.declared.view.ReadersView.{ReadersView}
use Rattle.psac_readers.specs.Steps as readers
use Rattle.psac_readers.specs.Chained.{named}
use Rattle.psac_marks.specs.declared.view.OwnView.{OwnView}
use Rattle.psac_marks.specs.declared.view.MarksView.{MarksView}
use Rattle.psac_marks.specs.Steps as marks
use Rattle.psac_marks.specs.Steps.{Lacks as LacksNode}
use Rattle.psac_marks.specs.Passes.{Claims as ClaimsNode, Keeps, slot_of, United as UnitedNodes}
use Rattle.psac_fork.specs.declared.tables.Pass.{Pass}
use Rattle.psac_fork.specs.declared.tables.Tables.{Tables}
use Rattle.psac_fork.specs.Whole.{IsOf, HasRoom}
use Rattle.psac_model.specs.declared.ends.CapKind.{CapKind}
use Rattle.psac_model.specs.declared.ends.CapKind.TheVariants as cap
use Rattle.psac_model.specs.Names.{Env}
use Rattle.psac_record.specs.Kept.{Stands}
use Rattle.psac_trace.specs.Rights.{Tidy, Shares, Kept}
use Rattle.psac_trace.specs.Asking.{Looked}
use Rattle.psac_trace.specs.Divided.{neither, writes_slot, sets_shared}
use Rattle.psac_trace.specs.Fit.{Fit, SetsReady, Rooted, ParentKept, both_have}
use Rattle.psac_trace.specs.Grown.{MoreClaims, MoreValues, MoreNodes, MoreMarks, MoreLinks, Made, nothing, followed, count, claims_in, Moves, Cause, IsFull}
use Rattle.psac_trace.specs.Running.{nodes_only, links_only}
use Rattle.psac_trace.proofs.Claims.{append_none, entry_past, entry_in, claims_none, claims_same, claims_then, claims_drew, claims_past, claims_joined, drawn_left, drawn_right}
use Rattle.psac_trace.proofs.Growing.{values_none, values_then, values_same, values_looked, values_wrote, values_claimed, values_joined, nodes_none, nodes_then, nodes_same, nodes_claimed, links_none, links_then, links_same, has_same, links_entered, marks_none, marks_then, marks_same}
use Rattle.psac_trace.proofs.Joining.{nodes_joined, links_joined, marks_joined}
use Rattle.psac_trace.proofs.Fitting.{sets_values, sets_claimed, sets_links, sets_left, sets_right, sets_joined, rooted_same, rooted_claimed, rooted_left, rooted_right, rooted_joined, keeps_left, keeps_right}
use Rattle.psac_trace.proofs.Views.{kept_same, kept_then, kept_looked, claimed_kept, claimed_cases, wrote_kept, wrote_from}
use Rattle.psac_trace.proofs.Forks.{joined_kept}

pub entry_member : (h : Handle) (list : List Handle) (n : ℕ) → entry list n ≡ h ∷ [] → Member h list
entry_member h list n e = entry_in h list n (subst (Member h) (sym e) (inl refl))

pub each_cap : (P : CapKind → Type 0) → P cap.Nodes → P cap.Mods → P cap.Links → (c : CapKind) → P c
each_cap P n m l cap.Nodes = n
each_cap P n m l cap.Mods = m
each_cap P n m l cap.Links = l

pub count_followed : (a b : Made) (c : CapKind) → count c a + count c b ≡ count c (followed a b)
count_followed a b cap.Nodes = sym (length-append a.nodes b.nodes)
count_followed a b cap.Mods = sym (length-append a.mods b.mods)
count_followed a b cap.Links = sym (length-append a.links b.links)

pub moves_none : (t : Tables) (p : Pass) → IsOf p t → Tidy p.values.knows → Fit p → Moves t p p nothing
moves_none t p of tidy fit =
    record {
      of = of;
      stays = kept_same p.values.knows tidy;
      fit = fit;
      claims = each_cap (λ c. MoreClaims (claims_in c p) (claims_in c p) (count c nothing)) (claims_none p.marks.knows.claims) (claims_none p.values.knows.claims) (claims_none p.readers.knows.claims);
      values = values_none p.values.knows;
      nodes = nodes_none p.marks.knows;
      links = links_none p.readers.knows;
      marks = marks_none p.marks.knows;
    }

pub moves_then : (t : Tables) (p u q : Pass) (a b : Made) → Moves t p u a → Moves t u q b → Moves t p q (followed a b)
moves_then t p u q a b m n =
    record {
      of = n.of;
      stays = kept_then p.values.knows u.values.knows q.values.knows m.stays n.stays;
      fit = n.fit;
      claims = λ c. subst (MoreClaims (claims_in c p) (claims_in c q)) (count_followed a b c) (claims_then (claims_in c p) (claims_in c u) (claims_in c q) (count c a) (count c b) (m.claims c) (n.claims c));
      values = values_then p.values.knows u.values.knows q.values.knows a.mods b.mods m.stays n.stays m.values n.values;
      nodes = nodes_then p.marks.knows u.marks.knows q.marks.knows a.nodes b.nodes m.nodes n.nodes;
      links = links_then p.readers.knows u.readers.knows q.readers.knows a.links b.links m.links n.links;
      marks = marks_then p.marks.knows u.marks.knows q.marks.knows m.marks n.marks;
    }

-- a table that is full behind what was made before
pub full_then : (t : Tables) (p u q : Pass) (a : Made) (c : Cause) → Moves t p u a → IsFull u q c → IsFull p q c
full_then t p u q a c m f =
    let k = m.claims c.which in
    let d = k.drew c.index in
    let e = f.drew in
    record { list = f.list ∙ ap length k.list; past = f.past; drew = omega (arith, d, e) }

-- and it stays full
pub full_more : (t : Tables) (p u q : Pass) (a : Made) (c : Cause) → Moves t u q a → IsFull p u c → IsFull p q c
full_more t p u q a c m f = let d = (m.claims c.which).drew c.index in let e = f.drew in record { list = f.list; past = f.past; drew = omega (arith, d, e) }

-- passes of which one part has changed
pub record BesideValues (p q : Pass) : Type 0 where
  pub table : q.values.table ≡ p.values.table
  pub readers : q.readers ≡ p.readers
  pub marks : q.marks ≡ p.marks

pub record BesideReaders (p q : Pass) : Type 0 where
  pub table : q.readers.table ≡ p.readers.table
  pub values : q.values ≡ p.values
  pub marks : q.marks ≡ p.marks

pub record BesideMarks (p q : Pass) : Type 0 where
  pub table : q.marks.table ≡ p.marks.table
  pub values : q.values ≡ p.values
  pub readers : q.readers ≡ p.readers

-- a claim in vain gives nothing
pub vain_mine : (v u : ValueView) (n : ℕ) → length v.claims.list ≤ n → u ≡ values.drew v n → u.mine ≡ v.mine
vain_mine v u n h e = ap (λ (z : ValueView). z.mine) e ∙ ap (λ es. v.mine ++ map (new_owned v.fixed) es) (entry_past v.claims.list n h) ∙ append_none v.mine

module _ (t : Tables) (p q : Pass) (of : IsOf p t) (tidy : Tidy p.values.knows) (fit : Fit p) where
  module _ (b : BesideValues p q) where
    pub values_of : IsOf q t
    values_of = (b.table ∙ of.0, subst (λ z. z.table ≡ t.readers) (sym b.readers) of.1, subst (λ z. z.table ≡ t.marks) (sym b.marks) of.2)

    pub values_room : HasRoom p → q.values.knows.claims.over ≡ 0 → HasRoom q
    values_room h o = (o, subst (λ z. z.knows.claims.over ≡ 0) (sym b.readers) h.1, subst (λ z. z.knows.claims.over ≡ 0) (sym b.marks) h.2)

    values_moved : (mods : List Handle) → Kept p.values.knows q.values.knows → SetsReady q.values.knows p.readers.knows → MoreClaims p.values.knows.claims q.values.knows.claims (length mods) → MoreValues p.values.knows q.values.knows mods → Moves t p q (record { mods = mods; nodes = []; links = [] })
    values_moved mods k s c m =
        let made : Made = record { mods = mods; nodes = []; links = [] } in
        let readers_is : q.readers.knows ≡ p.readers.knows = ap (λ z. z.knows) b.readers in
        let marks_is : q.marks.knows ≡ p.marks.knows = ap (λ z. z.knows) b.marks in
        record {
          of = values_of;
          stays = k;
          fit = record { sets = subst (SetsReady q.values.knows) (sym readers_is) s; nodes = subst Rooted (sym marks_is) fit.nodes };
          claims = each_cap (λ x. MoreClaims (claims_in x p) (claims_in x q) (count x made)) (claims_same p.marks.knows.claims q.marks.knows.claims (ap (λ (z : MarksView). z.claims) marks_is)) c (claims_same p.readers.knows.claims q.readers.knows.claims (ap (λ (z : ReadersView). z.claims) readers_is));
          values = m;
          nodes = subst (λ z. MoreNodes p.marks.knows z []) (sym marks_is) (nodes_none p.marks.knows);
          links = subst (λ z. MoreLinks p.readers.knows z []) (sym readers_is) (links_none p.readers.knows);
          marks = subst (λ z. MoreMarks p.marks.knows z) (sym marks_is) (marks_none p.marks.knows);
        }

    pub moves_looked : Looked p.values.knows q.values.knows → Moves t p q nothing
    moves_looked l =
        let k = kept_looked p.values.knows q.values.knows l tidy in
        values_moved [] k
        (sets_values p.values.knows q.values.knows p.readers.knows (λ m h. subst (λ z. MayWrite z m) l.1 h) k.known (ap (λ (z : ValueView). z.claims.list) l.1) k.fixed fit.sets)
        (claims_same p.values.knows.claims q.values.knows.claims (ap (λ (z : ValueView). z.claims) l.1))
        (values_looked p.values.knows q.values.knows l)

    pub moves_wrote : (m : Handle) (ws : List ℕ) → MayWrite p.values.knows m → q.values.knows ≡ wrote m.slot ws p.values.knows → Moves t p q nothing
    moves_wrote m ws mine is =
        let v = p.values.knows in
        let k = subst (Kept v) (sym is) (wrote_kept v m ws tidy mine) in
        values_moved [] k
        (sets_values v q.values.knows p.readers.knows (λ n h. wrote_from v m ws tidy mine n (subst (λ z. MayWrite z n) is h)) k.known (ap (λ (z : ValueView). z.claims.list) is) k.fixed fit.sets)
        (claims_same v.claims q.values.knows.claims (ap (λ (z : ValueView). z.claims) is))
        (subst (λ z. MoreValues v z []) (sym is) (values_wrote v m.slot ws))

    pub moves_claimed : (m : Handle) → Claims p.values.knows m q.values.knows → Lacks p.values.knows m.slot → Moves t p q (record { mods = m ∷ []; nodes = []; links = [] })
    moves_claimed m c l =
        let v = p.values.knows in
        let u = q.values.knows in
        let k = claimed_kept v u m c l tidy in
        let list : u.claims.list ≡ v.claims.list = ap (λ (z : ValueView). z.claims.list) c.5 in
        values_moved (m ∷ []) k
        (sets_claimed v u p.readers.knows m (claimed_cases v u m c l) k.known list k.fixed (c.1, entry_member c.1 v.claims.list c.0 c.3, ap (λ (z : Handle). z.slot) (sym c.4)) fit.sets)
        (subst (λ z. MoreClaims v.claims z 1) (sym (ap (λ (z : ValueView). z.claims) c.5)) (claims_drew v.claims c.0 c.2))
        (values_claimed v u m c l)

    pub moves_vain : (n : ℕ) → length p.values.knows.claims.list ≤ n → q.values.knows ≡ values.drew p.values.knows n → Moves t p q nothing
    moves_vain n h e =
        let v = p.values.knows in
        let u = q.values.knows in
        let none : entry v.claims.list n ≡ [] = entry_past v.claims.list n h in
        let mine : u.mine ≡ v.mine = ap (λ (z : ValueView). z.mine) e ∙ ap (λ es. v.mine ++ map (new_owned v.fixed) es) none ∙ append_none v.mine in
        let held : u.claims.held ≡ v.claims.held = ap (λ (z : ValueView). z.claims.held) e ∙ ap (λ es. v.claims.held ++ es) none ∙ append_none v.claims.held in
        let known : u.known ≡ v.known = ap (λ (z : ValueView). z.known) e in
        let branch : u.claims.branch ≡ v.claims.branch = ap (λ (z : ValueView). z.claims.branch) e in
        let fixed : u.fixed ≡ v.fixed = ap (λ (z : ValueView). z.fixed) e in
        let back : (m : Handle) → MayWrite u m → MayWrite v m = λ m i. (i.0, subst (Member i.0) mine i.1, i.2) in
        let out : (m : Handle) → Shares u m → Shares v m = λ m i. (i.0, subst (Member i.0) known i.1, i.2) in
        values_moved []
        (record {
          branch = branch;
          fixed = fixed;
          known = known;
          mine = λ m i. (i.0, subst (Member i.0) (sym mine) i.1, i.2);
          tidy = record {
            single = λ m k i j s. tidy.single m k (back m i) (back k j) s;
            apart = λ m k i j s. tidy.apart m k (back m i) (out k j) s;
            one = λ m k i j s. tidy.one m k (out m i) (out k j) s;
            labels = λ z i. subst (λ y. length z.label < length y) (sym branch) (tidy.labels z (subst (Member z) known i));
          };
        })
        (sets_values v u p.readers.knows back known (ap (λ (z : ValueView). z.claims.list) e) fixed fit.sets)
        (subst (λ z. MoreClaims v.claims z 0) (sym (ap (λ (z : ValueView). z.claims) e)) (claims_past v.claims n h))
        (values_same v u mine held fixed)

  module _ (b : BesideMarks p q) where
    pub marks_of : IsOf q t
    marks_of = (subst (λ z. z.table ≡ t.values) (sym b.values) of.0, subst (λ z. z.table ≡ t.readers) (sym b.readers) of.1, b.table ∙ of.2)

    pub marks_room : HasRoom p → q.marks.knows.claims.over ≡ 0 → HasRoom q
    marks_room h o = (subst (λ z. z.knows.claims.over ≡ 0) (sym b.values) h.0, subst (λ z. z.knows.claims.over ≡ 0) (sym b.readers) h.1, o)

    marks_moved : (nodes : List OwnView) → Rooted q.marks.knows → MoreClaims p.marks.knows.claims q.marks.knows.claims (length nodes) → MoreNodes p.marks.knows q.marks.knows nodes → MoreMarks p.marks.knows q.marks.knows → Moves t p q (record { mods = []; nodes = nodes; links = [] })
    marks_moved nodes r c m k =
        let made : Made = record { mods = []; nodes = nodes; links = [] } in
        let readers_is : q.readers.knows ≡ p.readers.knows = ap (λ z. z.knows) b.readers in
        let values_is : q.values.knows ≡ p.values.knows = ap (λ z. z.knows) b.values in
        record {
          of = marks_of;
          stays = subst (Kept p.values.knows) (sym values_is) (kept_same p.values.knows tidy);
          fit = record { sets = subst (λ z. SetsReady z q.readers.knows) (sym values_is) (subst (SetsReady p.values.knows) (sym readers_is) fit.sets); nodes = r };
          claims = each_cap (λ x. MoreClaims (claims_in x p) (claims_in x q) (count x made)) c (claims_same p.values.knows.claims q.values.knows.claims (ap (λ (z : ValueView). z.claims) values_is)) (claims_same p.readers.knows.claims q.readers.knows.claims (ap (λ (z : ReadersView). z.claims) readers_is));
          values = subst (λ z. MoreValues p.values.knows z []) (sym values_is) (values_none p.values.knows);
          nodes = m;
          links = subst (λ z. MoreLinks p.readers.knows z []) (sym readers_is) (links_none p.readers.knows);
          marks = k;
        }

    pub moves_node : (h : Handle) (par : Option Handle) → ParentKept par p.marks.knows → ClaimsNode p.marks.knows h (slot_of par) q.marks.knows → LacksNode p.marks.knows h.slot → Moves t p q (nodes_only ((h, par) ∷ []))
    moves_node h par kept c new =
        let v = p.marks.knows in
        let u = q.marks.knows in
        let m = nodes_claimed v u h (slot_of par) c new in
        marks_moved (record { node = h; parent = slot_of par } ∷ []) (rooted_claimed v u h par c m kept fit.nodes)
        (subst (λ z. MoreClaims v.claims z 1) (sym (ap (λ (z : MarksView). z.claims) c.becomes)) (claims_drew v.claims c.index c.low))
        m (marks_same v u (ap (λ (z : MarksView). z.marked) c.becomes) (ap (λ (z : MarksView). z.busy) c.becomes)
        (ap (λ (z : MarksView). z.asks) c.becomes))

    pub moves_no_node : (n : ℕ) → length p.marks.knows.claims.list ≤ n → q.marks.knows ≡ marks.drew p.marks.knows n → Moves t p q nothing
    moves_no_node n h e =
        let v = p.marks.knows in
        let u = q.marks.knows in
        let none : entry v.claims.list n ≡ [] = entry_past v.claims.list n h in
        let own : u.own ≡ v.own = ap (λ (z : MarksView). z.own) e ∙ ap (λ es. map marks.new_own es ++ v.own) none in
        let held : u.claims.held ≡ v.claims.held = ap (λ (z : MarksView). z.claims.held) e ∙ ap (λ es. v.claims.held ++ es) none ∙ append_none v.claims.held in
        let m = nodes_same v u own held (ap (λ (z : MarksView). z.shared) e) (ap (λ (z : MarksView). z.dropped) e) (ap (λ (z : MarksView). z.claims.branch) e) in
        marks_moved [] (rooted_same v u own (ap (λ (z : MarksView). z.shared) e) (ap (λ (z : MarksView). z.dropped) e) (ap (λ (z : MarksView). z.claims.branch) e) fit.nodes)
        (subst (λ z. MoreClaims v.claims z 0) (sym (ap (λ (z : MarksView). z.claims) e)) (claims_past v.claims n h))
        m (marks_same v u (ap (λ (z : MarksView). z.marked) e) (ap (λ (z : MarksView). z.busy) e) (ap (λ (z : MarksView). z.asks) e))

  module _ (b : BesideReaders p q) where
    pub readers_of : IsOf q t
    readers_of = (subst (λ z. z.table ≡ t.values) (sym b.values) of.0, b.table ∙ of.1, subst (λ z. z.table ≡ t.marks) (sym b.marks) of.2)

    pub readers_room : HasRoom p → q.readers.knows.claims.over ≡ 0 → HasRoom q
    readers_room h o = (subst (λ z. z.knows.claims.over ≡ 0) (sym b.values) h.0, o, subst (λ z. z.knows.claims.over ≡ 0) (sym b.marks) h.2)

    readers_moved : (ls : List Stands) → SetsReady p.values.knows q.readers.knows → MoreClaims p.readers.knows.claims q.readers.knows.claims (length ls) → MoreLinks p.readers.knows q.readers.knows ls → Moves t p q (links_only ls)
    readers_moved ls s c m =
        let made : Made = links_only ls in
        let marks_is : q.marks.knows ≡ p.marks.knows = ap (λ z. z.knows) b.marks in
        let values_is : q.values.knows ≡ p.values.knows = ap (λ z. z.knows) b.values in
        record {
          of = readers_of;
          stays = subst (Kept p.values.knows) (sym values_is) (kept_same p.values.knows tidy);
          fit = record { sets = subst (λ z. SetsReady z q.readers.knows) (sym values_is) s; nodes = subst Rooted (sym marks_is) fit.nodes };
          claims = each_cap (λ x. MoreClaims (claims_in x p) (claims_in x q) (count x made)) (claims_same p.marks.knows.claims q.marks.knows.claims (ap (λ (z : MarksView). z.claims) marks_is)) (claims_same p.values.knows.claims q.values.knows.claims (ap (λ (z : ValueView). z.claims) values_is)) c;
          values = subst (λ z. MoreValues p.values.knows z []) (sym values_is) (values_none p.values.knows);
          nodes = subst (λ z. MoreNodes p.marks.knows z []) (sym marks_is) (nodes_none p.marks.knows);
          links = m;
          marks = subst (λ z. MoreMarks p.marks.knows z) (sym marks_is) (marks_none p.marks.knows);
        }

    pub moves_link : (s : Stands) → readers.Entered p.readers.knows s.of.slot (word_of s.node) s.link.index q.readers.knows → sum_by (named s.link.index) p.readers.knows.links ≡ 0 → ((x : ℕ) → readers.Has x p.readers.knows → readers.Has x q.readers.knows) → Moves t p q (links_only (s ∷ []))
    moves_link s e new has =
        let v = p.readers.knows in
        let u = q.readers.knows in
        readers_moved (s ∷ [])
        (sets_links p.values.knows v u (ap (λ (z : ReadersView). z.mods) e.3) has (ap (λ (z : ReadersView). z.shared) e.3) (ap (λ (z : ReadersView). z.claims.branch) e.3) fit.sets)
        (subst (λ z. MoreClaims v.claims z 1) (sym (ap (λ (z : ReadersView). z.claims) e.3)) (claims_drew v.claims e.0 e.1))
        (links_entered v u s e new)

    pub moves_no_link : (n : ℕ) → length p.readers.knows.claims.list ≤ n → q.readers.knows ≡ readers.drew p.readers.knows n → Moves t p q nothing
    moves_no_link n h e =
        let v = p.readers.knows in
        let u = q.readers.knows in
        let none : entry v.claims.list n ≡ [] = entry_past v.claims.list n h in
        let links : u.links ≡ v.links = ap (λ (z : ReadersView). z.links) e ∙ ap (λ es. map readers.new_link es ++ v.links) none in
        let walk : u.walk ≡ v.walk = ap (λ (z : ReadersView). z.walk) e in
        let shared : u.shared ≡ v.shared = ap (λ (z : ReadersView). z.shared) e in
        let branch : u.claims.branch ≡ v.claims.branch = ap (λ (z : ReadersView). z.claims.branch) e in
        let mods : u.mods ≡ v.mods = ap (λ (z : ReadersView). z.mods) e in
        readers_moved []
        (sets_links p.values.knows v u mods (λ x i. has_same v u walk shared x i) shared branch fit.sets)
        (subst (λ z. MoreClaims v.claims z 0) (sym (ap (λ (z : ReadersView). z.claims) e)) (claims_past v.claims n h))
        (links_same v u branch mods links walk shared)

-- a pass, divided for both sides of a par
module _ (t : Tables) (p l k : Pass) (ls rs : List Stmt) (env : Env Handle) (fit : Fit p)
    (lv : l.values.knows ≡ values.left_of (neither ls rs env) (writes_slot rs env) p.values.knows)
    (kv : k.values.knows ≡ values.right_of (neither ls rs env) (writes_slot rs env) p.values.knows)
    (lr : l.readers.knows ≡ readers.left_of (sets_shared ls rs env p.values.knows) (writes_slot rs env) (λ x. false) p.readers.knows)
    (kr : k.readers.knows ≡ readers.right_of (sets_shared ls rs env p.values.knows) (writes_slot rs env) (λ x. false) p.readers.knows)
    (lm : l.marks.knows ≡ marks.left_of (both_have p.marks.knows) (λ x. false) p.marks.knows)
    (km : k.marks.knows ≡ marks.right_of (both_have p.marks.knows) (λ x. false) p.marks.knows) where
  abbrev S : ℕ → Bool
  S = neither ls rs env

  abbrev T : ℕ → Bool
  T = writes_slot rs env

  abbrev D : ℕ → Bool
  D = sets_shared ls rs env p.values.knows

  abbrev B : ℕ → Bool
  B = both_have p.marks.knows

  abbrev N : ℕ → Bool
  N = λ x. false

  pub fit_left : Fit l
  fit_left =
      record {
        sets = subst (λ z. SetsReady z l.readers.knows) (sym lv) (subst (SetsReady (values.left_of S T p.values.knows)) (sym lr) (sets_left S T p.values.knows p.readers.knows p.beside fit.sets));
        nodes = subst Rooted (sym lm) (rooted_left p.marks.knows fit.nodes);
      }

  pub fit_right : Fit k
  fit_right =
      record {
        sets = subst (λ z. SetsReady z k.readers.knows) (sym kv) (subst (SetsReady (values.right_of S T p.values.knows)) (sym kr) (sets_right S T p.values.knows p.readers.knows p.beside fit.sets));
        nodes = subst Rooted (sym km) (rooted_right p.marks.knows fit.nodes);
      }

  pub parent_left : (h : Handle) → Keeps p.marks.knows h → Keeps l.marks.knows h
  parent_left h i = subst (λ z. Keeps z h) (sym lm) (keeps_left p.marks.knows fit.nodes h i)

  pub parent_right : (h : Handle) → Keeps p.marks.knows h → Keeps k.marks.knows h
  parent_right h i = subst (λ z. Keeps z h) (sym km) (keeps_right p.marks.knows fit.nodes h i)

  pub room_left : HasRoom p → HasRoom l
  room_left h = (ap (λ (z : ValueView). z.claims.over) lv ∙ h.0, ap (λ (z : ReadersView). z.claims.over) lr ∙ h.1, ap (λ (z : MarksView). z.claims.over) lm ∙ h.2)

  pub room_right : HasRoom k
  room_right = (ap (λ (z : ValueView). z.claims.over) kv, ap (λ (z : ReadersView). z.claims.over) kr, ap (λ (z : MarksView). z.claims.over) km)

  claims_left : (c : CapKind) → claims_in c l ≡ claiming.left_of (claims_in c p)
  claims_left = each_cap (λ c. claims_in c l ≡ claiming.left_of (claims_in c p)) (ap (λ (z : MarksView). z.claims) lm) (ap (λ (z : ValueView). z.claims) lv) (ap (λ (z : ReadersView). z.claims) lr)

  claims_right : (c : CapKind) → claims_in c k ≡ claiming.right_of (claims_in c p)
  claims_right = each_cap (λ c. claims_in c k ≡ claiming.right_of (claims_in c p)) (ap (λ (z : MarksView). z.claims) km) (ap (λ (z : ValueView). z.claims) kv) (ap (λ (z : ReadersView). z.claims) kr)

  -- and joined, after each side has moved
  module _ (l' k' j : Pass) (a b : Made) (ml : Moves t l l' a) (mk : Moves t k k' b) (of : IsOf j t) (tidy : Tidy p.values.knows)
      (jv : j.values.knows ≡ values.joined l'.values.knows k'.values.knows)
      (un : United l'.values.knows k'.values.knows j.values.knows)
      (jr : j.readers.knows ≡ readers.joined l'.readers.knows k'.readers.knows)
      (one : (l : ℕ) → sum_by (named l) j.readers.knows.links ≤ 1)
      (jm : j.marks.knows ≡ marks.joined l'.marks.knows k'.marks.knows)
      (unm : UnitedNodes l'.marks.knows k'.marks.knows j.marks.knows) where
    claims_join : (c : CapKind) → claims_in c j ≡ claiming.joined (claims_in c l') (claims_in c k')
    claims_join = each_cap (λ c. claims_in c j ≡ claiming.joined (claims_in c l') (claims_in c k')) (ap (λ (z : MarksView). z.claims) jm) (ap (λ (z : ValueView). z.claims) jv) (ap (λ (z : ReadersView). z.claims) jr)

    more_left : (c : CapKind) → MoreClaims (claiming.left_of (claims_in c p)) (claims_in c l') (count c a)
    more_left c = subst (λ z. MoreClaims z (claims_in c l') (count c a)) (claims_left c) (ml.claims c)

    more_right : (c : CapKind) → MoreClaims (claiming.right_of (claims_in c p)) (claims_in c k') (count c b)
    more_right c = subst (λ z. MoreClaims z (claims_in c k') (count c b)) (claims_right c) (mk.claims c)

    kl : Kept (values.left_of S T p.values.knows) l'.values.knows
    kl = subst (λ z. Kept z l'.values.knows) lv ml.stays

    kk : Kept (values.right_of S T p.values.knows) k'.values.knows
    kk = subst (λ z. Kept z k'.values.knows) kv mk.stays

    nl : MoreNodes (marks.left_of B N p.marks.knows) l'.marks.knows a.nodes
    nl = subst (λ z. MoreNodes z l'.marks.knows a.nodes) lm ml.nodes

    nk : MoreNodes (marks.right_of B N p.marks.knows) k'.marks.knows b.nodes
    nk = subst (λ z. MoreNodes z k'.marks.knows b.nodes) km mk.nodes

    nj : MoreNodes p.marks.knows j.marks.knows (a.nodes ++ b.nodes)
    nj = nodes_joined p.marks.knows l'.marks.knows k'.marks.knows j.marks.knows a.nodes b.nodes fit.nodes nl nk jm unm

    el : MoreLinks (readers.left_of D T N p.readers.knows) l'.readers.knows a.links
    el = subst (λ z. MoreLinks z l'.readers.knows a.links) lr ml.links

    ek : MoreLinks (readers.right_of D T N p.readers.knows) k'.readers.knows b.links
    ek = subst (λ z. MoreLinks z k'.readers.knows b.links) kr mk.links

    sets_after : SetsReady j.values.knows j.readers.knows
    sets_after =
        sets_joined l'.values.knows k'.values.knows j.values.knows l'.readers.knows k'.readers.knows j.readers.knows p.values.knows.claims.branch
        (ap stem kl.branch ∙ stem_push p.values.knows.claims.branch false)
        (ap stem el.branch ∙ stem_push p.readers.knows.claims.branch false ∙ p.beside)
        jv jr (ek.shared ∙ sym el.shared) (ek.mods ∙ sym el.mods) ml.fit.sets mk.fit.sets

    pub moves_joined : Moves t p j (followed a b)
    moves_joined =
        record {
          of = of;
          stays = joined_kept S T p.values.knows tidy l'.values.knows k'.values.knows j.values.knows kl kk jv un;
          fit = record { sets = sets_after; nodes = rooted_joined p.marks.knows fit.nodes l'.marks.knows k'.marks.knows j.marks.knows a.nodes b.nodes nl nk nj jm unm ml.fit.nodes mk.fit.nodes };
          claims = λ c. subst (MoreClaims (claims_in c p) (claims_in c j)) (count_followed a b c) (claims_joined (claims_in c p) (claims_in c l') (claims_in c k') (claims_in c j) (count c a) (count c b) (claims_join c) (more_left c) (more_right c));
          values = values_joined S T p.values.knows l'.values.knows k'.values.knows j.values.knows a.mods b.mods tidy kl kk jv un (subst (λ z. MoreValues z l'.values.knows a.mods) lv ml.values) (subst (λ z. MoreValues z k'.values.knows b.mods) kv mk.values);
          nodes = nj;
          links = links_joined D T N p.readers.knows l'.readers.knows k'.readers.knows j.readers.knows a.links b.links fit.sets.labels el ek jr one;
          marks = marks_joined p.marks.knows l'.marks.knows k'.marks.knows j.marks.knows (subst (λ z. MoreMarks z l'.marks.knows) lm ml.marks) (subst (λ z. MoreMarks z k'.marks.knows) km mk.marks) jm;
        }

    -- a table that is full on a side is full
    pub full_left : (c : Cause) → IsFull l l' c → IsFull p j c
    full_left c f =
        let from = claims_left c.which in
        record {
          list = f.list ∙ ap (λ (z : ClaimView). length z.list) from;
          past = f.past;
          drew = drawn_left (claims_in c.which p) (claims_in c.which l') (claims_in c.which k') (claims_in c.which j) c.index (claims_join c.which) (subst (λ (z : ClaimView). times c.index z.drawn < times c.index (claims_in c.which l').drawn) from f.drew);
        }

    pub full_right : (c : Cause) → IsFull k k' c → IsFull p j c
    full_right c f =
        let from = claims_right c.which in
        let d = f.drew in
        record {
          list = f.list ∙ ap (λ (z : ClaimView). length z.list) from;
          past = f.past;
          drew = drawn_right (claims_in c.which p) (claims_in c.which l') (claims_in c.which k') (claims_in c.which j) c.index (claims_join c.which) ((more_left c.which).drew c.index) (omega (arith, d));
        }

    pub over_joined : (c : CapKind) → (claims_in c j).over ≡ (claims_in c l').over + (claims_in c k').over
    over_joined c = ap (λ (z : ClaimView). z.over) (claims_join c)
