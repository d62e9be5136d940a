-- A node is asked, words are looked at, and a node is cleared: what a call needs stands, and what it leaves is left from before.
use Rattle.std.proofs.Common.{◌≡◌, ◌↔◌, ℕ, ◌+◌, length, ◌<◌, Bool, true, false, if◌then◌else◌, IsTrue, List, [], ◌∷◌, ◌++◌, map, Option, Some, None, IfSome, refl, ap, sym, ◌∙◌, subst, ⊎_elim, append_assoc}
use Rattle.psac_ops.specs.declared.plain.Handle.{Handle}
use Rattle.psac_syntax.specs.declared.program.Stmt.{Stmt}
use Rattle.psac_syntax.specs.declared.program.Func.{Func}
use Rattle.psac_slots.specs.Handles.{Member}
use Rattle.psac_slots.specs.Claiming.{times}
use Rattle.psac_slots.proofs.Pairs.{member_left, member_right, member_cases}
use Rattle.psac_values.specs.declared.view.ValueView.{ValueView}
use Rattle.psac_marks.specs.declared.view.MarksView.{MarksView}
use Rattle.psac_marks.specs.Steps.{IsClosed}
use Rattle.psac_marks.specs.Marked.{shared_place}
use Rattle.psac_marks.proofs.Parts.{place_shared}
use Rattle.psac_model.specs.declared.ends.CapKind.{CapKind}
use Rattle.psac_model.specs.declared.ends.CapKind.TheVariants as cap
use Rattle.psac_model.specs.Names.{Env}
use Rattle.psac_model.specs.Expression.{Setting}
use Rattle.psac_laws.specs.Standing.{Standing}
use Rattle.psac_traced.specs.Rec as rec
use Rattle.psac_traced.specs.Rec.{Rec}
use Rattle.psac_raise.specs.Raise.{LeadsIn}
use Rattle.psac_trace.specs.Rights.{Heap}
use Rattle.psac_trace.specs.Grown.{MoreClaims, MoreValues}
use Rattle.psac_record.specs.declared.parts.Seen.{Seen}
use Rattle.psac_ops.specs.Named.{same_handle}
use Rattle.psac_laws.proofs.Places.{test_or}
use Rattle.psac_record.specs.Kept.{Kept, E, A, W, S, P, R, Stands, stands, links_of, all_of, added, reads_of}
use Rattle.psac_repair.specs.Taking.{given}
use Rattle.psac_repair.specs.Unshared.{Unshared}
use Rattle.psac_repair.specs.Ended.{Ended, Good, Fault, Other, then_ended}
use Rattle.psac_repair.specs.Outcomes.{OnGood, is_good}
use Rattle.psac_repair.specs.Stood.{Stood, Owned}
use Rattle.psac_repair.specs.Seen.{Known}
use Rattle.psac_repair.specs.Marks.{Nodes}
use Rattle.psac_trace.specs.Laws.{NewMade}
use Rattle.psac_repair.specs.Mends.{Told, Needs, Tells, PartEnd, TellsPart}
use Rattle.psac_repair.specs.Planted.{slots, tops, NoneMarked, Planted, Passed}
use Rattle.psac_repair.specs.Watched.{Watched}
use Rattle.psac_repair.specs.Rewired.{Unread}
use Rattle.psac_repair.specs.Going.{Views, claims_of, Before, Lasting, FullBy, Beside, Went, After}
use Rattle.psac_trace.proofs.Moving.{each_cap}
use Rattle.psac_repair.proofs.Filling.{full_before}
use Rattle.psac_repair.proofs.Asking.{quiet_step, quiet_pair, quiet_block}
use Rattle.psac_repair.proofs.Parting.{families_map}
use Rattle.psac_repair.proofs.Rewiring.{led_on}
use Rattle.psac_repair.proofs.Steps.{owned_still}
use Rattle.psac_repair.proofs.Watching.{woken_looked}
use Rattle.psac_traced.specs.Mending.{mended, unlike}

-- how a call ended

pub on_good : {A B : Type 0} (e : Ended) → (A → B) → OnGood e A → OnGood e B
on_good (Good r) f a = f a
on_good (Fault why line) f a = tt
on_good (Other why) f a = tt

pub bad_told : (T : Type 0) (e : Ended) → is_good e ≡ false → OnGood e T
bad_told T (Good z) bad = absurd cc
bad_told T (Fault why line) bad = tt
bad_told T (Other why) bad = tt

pub good_then : {A B : Type 0} (h : Rec Handle → Rec Handle) (e : Ended) → (A → B) → OnGood e A → OnGood (then_ended h e) B
good_then h (Good r) f a = f a
good_then h (Fault why line) f a = tt
good_then h (Other why) f a = tt

-- what was run again is of the new record

pub all_append : {X : Type 0} (f : Kept → List X) (xs ys : List Kept) → all_of f (xs ++ ys) ≡ all_of f xs ++ all_of f ys
all_append f [] ys = refl
all_append f (k ∷ xs) ys = ap (λ z. f k ++ z) (all_append f xs ys) ∙ sym (append_assoc (f k) (all_of f xs) (all_of f ys))

just : (x : Stands) (xs : List Stands) → Member x (xs ++ []) → Member x xs
just x xs i = ⊎_elim (λ (a : Member x xs). a) (λ (a : Member x []). absurd a) (member_cases x xs [] i)

all_added : (s : Stands) (t : Kept) → Member s (all_of links_of (added t [])) → Member s (links_of t)
all_added s E i = absurd i
all_added s (A m r) i = just s (links_of r) i
all_added s (W m v r) i = just s (links_of r) i
all_added s (S n t r) i = just s (links_of (S n t r)) i
all_added s (P n t r) i = just s (links_of (P n t r)) i
all_added s (R b t) i = just s (links_of (R b t)) i

pub given_in : (k new : Kept) (s : Stands) → Member s (all_of links_of (given k new)) → Member s (links_of new)
given_in (A m k) (A n new) s i = given_in k new s i
given_in (W m v k) (W n u new) s i = given_in k new s i
given_in (S n t k) (S c u new) s i =
    ⊎_elim
    (λ (j : Member s (all_of links_of (given t u))). member_left s (links_of u) (links_of new) (given_in t u s j))
    (λ (j : Member s (all_of links_of (given k new))). member_right s (links_of u) (links_of new) (given_in k new s j))
    (member_cases s (all_of links_of (given t u)) (all_of links_of (given k new)) (subst (Member s) (all_append links_of (given t u) (given k new)) i))
given_in (P n t k) (P c u new) s i =
    ⊎_elim
    (λ (j : Member s (all_of links_of (given t u))). member_left s (links_of u) (links_of new) (given_in t u s j))
    (λ (j : Member s (all_of links_of (given k new))). member_right s (links_of u) (links_of new) (given_in k new s j))
    (member_cases s (all_of links_of (given t u)) (all_of links_of (given k new)) (subst (Member s) (all_append links_of (given t u) (given k new)) i))
given_in (R b t) (R c u) s i =
    member_right s (map (stands c.node) c.reads) (links_of u)
    (⊎_elim
    (λ (e : unlike same_handle (reads_of b.reads) (reads_of c.reads) ≡ true). all_added s u (subst (λ z. Member s (all_of links_of (if z then added u [] else given t u))) e i))
    (λ (e : unlike same_handle (reads_of b.reads) (reads_of c.reads) ≡ false). given_in t u s (subst (λ z. Member s (all_of links_of (if z then added u [] else given t u))) e i))
    (test_or (unlike same_handle (reads_of b.reads) (reads_of c.reads))))
given_in _ _ s i = absurd i

-- what entered nothing reads that isn't read by the new record
pub made_unread : (k new rest : Kept) (made : List Stands) → made ≡ all_of links_of (given k new) → Unread (links_of new) rest → Unread made rest
made_unread k new rest made is free s i = free s (given_in k new s (subst (Member s) is i))

-- no node is both own and shared, still
pub unshared_on : (m n : MarksView) (us inside : List ℕ) → Passed m n us inside → Unshared m → Unshared n
unshared_on m n us inside p free o e i j same =
    let k : Member e m.shared = subst (Member e) p.shared j in
    ⊎_elim
    (λ (a : Member o m.own). free o e a k same)
    (λ (a : Member o p.made). p.new o a (shared_place e) (place_shared m e k) (sym same))
    (p.own o i)

-- a node was asked

-- none of the record's nodes is marked where its first one isn't
pub quiet_top : (m : MarksView) (k : Kept) (n : Handle) (b : Bool) → IsClosed m → IsTrue b ↔ (0 < times n.slot m.marked) → (above : Option Handle) → tops k ≡ n.slot ∷ [] → Nodes m above k → b ≡ false → NoneMarked m (slots k)
quiet_top m E n b closed w above e ns f = absurd cc
quiet_top m (A h r) n b closed w above e ns f = quiet_top m r n b closed w above e ns f
quiet_top m (W h x r) n b closed w above e ns f = quiet_top m r n b closed w above e ns f
quiet_top m (S h t r) n b closed w above e ns f =
    let same : n.slot ≡ h.slot = cc in
    quiet_step m (S h t r) t r h b refl closed (subst (λ z. IsTrue b ↔ (0 < times z m.marked)) same w) above ns f
quiet_top m (P h t r) n b closed w above e ns f =
    let same : n.slot ≡ h.slot = cc in
    quiet_pair m (P h t r) t r h b refl closed (subst (λ z. IsTrue b ↔ (0 < times z m.marked)) same w) above ns f
quiet_top m (R h t) n b closed w above e ns f =
    let same : n.slot ≡ h.node.slot = cc in
    quiet_block m (R h t) t h b refl closed (subst (λ z. IsTrue b ↔ (0 < times z m.marked)) same w) above ns f

if_some : {A : Type 0} {P Q : A → Type 0} (o : Option A) → ((a : A) → P a → Q a) → IfSome o P → IfSome o Q
if_some None f i = tt
if_some (Some a) f i = f a i

module _ (m : MarksView) (n : ℕ) where
  abbrev pub asked : MarksView
  asked = record m { asks = n }

  watched_asked : (v : ValueView) (k : Kept) → Watched v m k → Watched v asked k
  watched_asked v E w = tt
  watched_asked v (A h r) w = watched_asked v r w
  watched_asked v (W h x r) w = watched_asked v r w
  watched_asked v (S h t r) w = (watched_asked v t w.0, watched_asked v r w.1)
  watched_asked v (P h t r) w = (watched_asked v t w.0, watched_asked v r w.1)
  watched_asked v (R b t) w = ((w.0.0, w.0.1), watched_asked v t w.1)

  led_asked : (us : List ℕ) (x : ℕ) → LeadsIn m us x → LeadsIn asked us x
  led_asked us x l = led_on m asked us (λ e i j. i) (λ y i k. k) (λ y i b. b) x l

  planted_asked : (us : List ℕ) (above : Option Handle) (k : Kept) → Planted m us above k → Planted asked us above k
  planted_asked us above k p =
      record { nodes = p.nodes; families = families_map m asked k (λ x ys i c. c) p.families; once = p.once; apart = p.apart; known = p.known; had = p.had }

  -- from what was so after asking it was so before
  passed_asked : (u : MarksView) (us inside : List ℕ) → Passed asked u us inside → Passed m u us inside
  passed_asked u us inside p =
      record {
        made = p.made;
        gone = p.gone;
        raised = p.raised;
        branch = p.branch;
        shared = p.shared;
        keeps = p.keeps;
        own = p.own;
        has = p.has;
        new = p.new;
        below = p.below;
        dropped = p.dropped;
        gone_is = p.gone_is;
        marked = p.marked;
        raised_is = p.raised_is;
        busy = p.busy;
      }

module _ (N : Rec Handle → ValueView → Type 0) (funcs : List Func) (us : List ℕ) (above : Option Handle) (stood : Rec Handle) (k : Kept) (p : Views) (n : ℕ) where
  abbrev after_asking : Views
  after_asking = record p { marks = record p.marks { asks = n } }

  pub asked_before : Before N funcs us above stood k p → Before N funcs us above stood k after_asking
  asked_before b =
      record {
        checked = b.checked;
        room = b.room;
        sets = b.sets;
        rooted = record { kept = b.rooted.kept; dropped = b.rooted.dropped; shared = b.rooted.shared; labels = b.rooted.labels };
        tidy = b.tidy;
        owned = b.owned;
        once = b.once;
        needs = b.needs;
        planted = planted_asked p.marks n us above k b.planted;
        unshared = b.unshared;
        wired = record {
          linked = b.wired.linked;
          once = b.wired.once;
          walk = b.wired.walk;
          readers = b.wired.readers;
          led = λ x i. led_asked p.marks n us x (b.wired.led x i);
          above_led = if_some above (λ h l. led_asked p.marks n us h.slot l) b.wired.above_led;
          fits = b.wired.fits;
        };
        ordered = b.ordered;
        aged = b.aged;
        watched = watched_asked p.marks n p.values k b.watched;
      }

  claims_asked : (q : Views) (drew : CapKind → ℕ) → ((c : CapKind) → MoreClaims (claims_of c after_asking) (claims_of c q) (drew c)) → (c : CapKind) → MoreClaims (claims_of c p) (claims_of c q) (drew c)
  claims_asked q drew f cap.Nodes = f cap.Nodes
  claims_asked q drew f cap.Mods = f cap.Mods
  claims_asked q drew f cap.Links = f cap.Links

  abbrev lasting_asked : (q : Views) → Lasting after_asking q → Lasting p q
  lasting_asked q l =
      record {
        stays = l.stays;
        drew = l.drew;
        claims = claims_asked q l.drew l.claims;
        drawn = l.drawn;
        indexes = each_cap (λ c. length (claims_of c q).drawn ≡ length (claims_of c p).drawn + l.drawn c) (l.indexes cap.Nodes) (l.indexes cap.Mods) (l.indexes cap.Links);
        mods = l.mods;
        values = l.values;
        mods_drew = l.mods_drew;
        nodes = l.nodes;
        gone_nodes = l.gone_nodes;
        swapped = record { held = l.swapped.held; dropped = l.swapped.dropped };
        own = l.own;
        nodes_drew = l.nodes_drew;
        shared = l.shared;
      }

  full_asked : (q : Views) (e : Ended) → FullBy after_asking q e → FullBy p q e
  full_asked q e = full_before after_asking p q (each_cap (λ c. claims_of c p ≡ claims_of c after_asking) refl refl refl) e

  beside_asked : (q : Views) → Beside us k after_asking q → Beside us k p q
  beside_asked q b = record { room = b.room; sets = b.sets; rooted = b.rooted; passed = passed_asked p.marks n q.marks us (slots k) b.passed; steady = b.steady }

  went_asked : (q : Views) (new : Kept) (gone made : List Stands) → Went us above k new gone made after_asking q → Went us above k new gone made p q
  went_asked q new gone made w =
      let a = w.replanted in
      record {
        replanted = record { passed = passed_asked p.marks n q.marks us (slots k) a.passed; nodes = a.nodes; families = a.families; once = a.once; tops_are = a.tops_are; unmarked = a.unmarked; covers = a.covers };
        rewired = w.rewired;
        gone_is = w.gone_is;
        made_is = w.made_is;
        woken = w.woken;
      }

  pub asked_after : (T : ValueView → ValueView → (CapKind → ℕ) → Ended → Type 0) (new : Kept) (q : Views) (e : Ended)
      → After T us above k new after_asking q e → After T us above k new p q e
  asked_after T new q e a =
      record {
        lasting = lasting_asked q a.lasting;
        tells = a.tells;
        room = a.room;
        full = full_asked q e a.full;
        gone = a.gone;
        made = a.made;
        links_drew = a.links_drew;
        relinks = a.relinks;
        beside = on_good e (beside_asked q) a.beside;
        went = on_good e (went_asked q new a.gone a.made) a.went;
        replaced = a.replaced;
      }

-- words were looked at

module _ (v : ValueView) (n : ℕ) where
  abbrev pub looked : ValueView
  looked = record v { looks = n }

  owned_looked : (r : Rec Handle) → Owned v r → Owned looked r
  owned_looked r o = owned_still v looked (λ m h. h) r (λ m x i h s. s) o

  known_looked : (reads : List Seen) → Known v reads → Known looked reads
  known_looked [] k = tt
  known_looked (s ∷ reads) k = (k.0, known_looked reads k.1)

  watched_looked : (m : MarksView) (k : Kept) → Watched v m k → Watched looked m k
  watched_looked m E w = tt
  watched_looked m (A h r) w = watched_looked m r w
  watched_looked m (W h x r) w = watched_looked m r w
  watched_looked m (S h t r) w = (watched_looked m t w.0, watched_looked m r w.1)
  watched_looked m (P h t r) w = (watched_looked m t w.0, watched_looked m r w.1)
  watched_looked m (R b t) w = ((known_looked b.reads w.0.0, w.0.1), watched_looked m t w.1)

  -- what was made since words were looked at was made since before
  pub values_unlooked : (u : ValueView) (ms : List Handle) → MoreValues looked u ms → MoreValues v u ms
  values_unlooked u ms m =
      record {
        mine = m.mine;
        held = m.held;
        differ = m.differ;
        lacked = λ h i. (let l = m.lacked h i in record { mine = l.mine; known = l.known });
        has = m.has;
      }

  made_looked : (u : ValueView) (ms : List Handle) → NewMade looked u ms → NewMade v u ms
  made_looked u ms c = record { distinct = c.distinct; lacked = λ m i. (let l = c.lacked m i in record { mine = l.mine; known = l.known }); has = c.has }

  module _ (w : Setting Handle) (funcs : List Func) (Q : List Stmt → Type 0) where
    stood_looked : (old : Rec Handle) (room : ℕ) (body : List Stmt) (env : Env Handle) (heap base : Heap) (st end : Standing) → Stood w funcs Q v old room body env heap base st end → Stood w funcs Q looked old room body env heap base st end
    stood_looked old room body env heap base st end s =
        let r = s.ready in
        record {
          so = s.so;
          meets = s.meets;
          left_it = s.left_it;
          before = s.before;
          ready = record { same = r.same; closed = r.closed; cells = r.cells; row_count = r.row_count; sees = r.sees; knows = r.knows; opens = r.opens; apart = r.apart };
          unmade = s.unmade;
          unused = s.unused;
          beside = s.beside;
        }

    pub needs_looked : (old : Rec Handle) → Needs w funcs Q old v → Needs w funcs Q old looked
    needs_looked old a = (a.0, a.1, a.2, a.3, a.4, a.5, a.6, stood_looked old a.0 a.1 a.2 a.3 a.4 a.5 a.6 a.7)

    told_looked : (st : Standing) (left : List ℕ) (env : Env Handle) (old : Rec Handle) (u : ValueView) (base : Heap) (drawn : CapKind → ℕ) (e : Ended)
        → Told w funcs Q st left env old looked u base drawn e → Told w funcs Q st left env old v u base drawn e
    told_looked st left env old u base drawn (Good new) t = (t.0, record { fills = t.1.fills; sees = t.1.sees; owned = t.1.owned }, t.2, made_looked u (mended w.same old new).created t.3, t.4)
    told_looked st left env old u base drawn (Fault k l) t = (t.0, t.1, t.2, t.3, made_looked u (mended w.same old t.0).created t.4, t.5)
    told_looked st left env old u base drawn (Other why) t = (t.0, t.1, t.2, made_looked u (mended w.same old t.0).created t.3, t.4, t.5)

    pub tells_looked : (old : Rec Handle) (u : ValueView) (drawn : CapKind → ℕ) (e : Ended) → Tells w funcs Q old looked u drawn e
        → Tells w funcs Q old v u drawn e
    tells_looked old u drawn e t room body env heap base st end s =
        told_looked st end.unwritten env old u base drawn e (t room body env heap base st end (stood_looked old room body env heap base st end s))

    part_looked : (part rest : Rec Handle) (st : Standing) (left : List ℕ) (env : Env Handle) (u : ValueView) (base : Heap) (drawn : CapKind → ℕ) (e : Ended)
        → PartEnd w funcs Q part rest st left env looked u base drawn e → PartEnd w funcs Q part rest st left env v u base drawn e
    part_looked part rest st left env u base drawn (Good new) t = (
      t.0,
      t.1,
      t.2,
      t.3,
      t.4,
      t.5,
      t.6,
      t.7,
      λ x more all e k sum told. told_looked st left env (rec.S part rest) x base all (then_ended (rec.S new) e) (t.8 x more all e k sum told),
      t.9,
      t.10,
      t.11,
    )
    part_looked part rest st left env u base drawn (Fault k l) t = told_looked st left env (rec.S part rest) u base drawn (Fault k l) t
    part_looked part rest st left env u base drawn (Other why) t = told_looked st left env (rec.S part rest) u base drawn (Other why) t

    pub rest_looked : (part rest : Rec Handle) (u : ValueView) (drawn : CapKind → ℕ) (e : Ended)
        → TellsPart w funcs Q part rest looked u drawn e → TellsPart w funcs Q part rest v u drawn e
    rest_looked part rest u drawn e t room body env heap base st end s =
        part_looked part rest st end.unwritten env u base drawn e (t room body env heap base st end (stood_looked (rec.S part rest) room body env heap base st end s))

module _ (N : Rec Handle → ValueView → Type 0) (funcs : List Func) (us : List ℕ) (above : Option Handle) (stood : Rec Handle) (k : Kept) (p : Views) (n : ℕ) where
  abbrev after_looking : Views
  after_looking = record p { values = record p.values { looks = n } }

  pub looked_before : (N stood p.values → N stood after_looking.values) → Before N funcs us above stood k p → Before N funcs us above stood k after_looking
  looked_before needs b =
      record {
        checked = b.checked;
        room = b.room;
        sets = record { mine = b.sets.mine; known = b.sets.known; spare = b.sets.spare; labels = b.sets.labels };
        rooted = b.rooted;
        tidy = record { single = b.tidy.single; apart = b.tidy.apart; one = b.tidy.one; labels = b.tidy.labels };
        owned = owned_looked p.values n stood b.owned;
        once = b.once;
        needs = needs b.needs;
        planted = b.planted;
        unshared = b.unshared;
        wired = b.wired;
        ordered = b.ordered;
        aged = b.aged;
        watched = watched_looked p.values n p.marks k b.watched;
      }

  claims_looked : (q : Views) (drew : CapKind → ℕ) → ((c : CapKind) → MoreClaims (claims_of c after_looking) (claims_of c q) (drew c)) → (c : CapKind) → MoreClaims (claims_of c p) (claims_of c q) (drew c)
  claims_looked q drew f cap.Nodes = f cap.Nodes
  claims_looked q drew f cap.Mods = f cap.Mods
  claims_looked q drew f cap.Links = f cap.Links

  pub looked_after : (T : ValueView → ValueView → (CapKind → ℕ) → Ended → Type 0) (new : Kept) (q : Views) (e : Ended)
      → ((drawn : CapKind → ℕ) → T after_looking.values q.values drawn e → T p.values q.values drawn e)
      → After T us above k new after_looking q e → After T us above k new p q e
  looked_after T new q e tells a =
      let l = a.lasting in
      record {
        lasting = record {
          stays = record { branch = l.stays.branch; fixed = l.stays.fixed; known = l.stays.known; mine = l.stays.mine; tidy = l.stays.tidy };
          drew = l.drew;
          claims = claims_looked q l.drew l.claims;
          drawn = l.drawn;
          indexes = each_cap (λ c. length (claims_of c q).drawn ≡ length (claims_of c p).drawn + l.drawn c) (l.indexes cap.Nodes) (l.indexes cap.Mods) (l.indexes cap.Links);
          mods = l.mods;
          values = values_unlooked p.values n q.values l.mods l.values;
          mods_drew = l.mods_drew;
          nodes = l.nodes;
          gone_nodes = l.gone_nodes;
          swapped = record { held = l.swapped.held; dropped = l.swapped.dropped };
          own = l.own;
          nodes_drew = l.nodes_drew;
          shared = l.shared;
        };
        tells = tells l.drawn a.tells;
        room = a.room;
        full = full_before after_looking p q (each_cap (λ c. claims_of c p ≡ claims_of c after_looking) refl refl refl) e a.full;
        gone = a.gone;
        made = a.made;
        links_drew = a.links_drew;
        relinks = a.relinks;
        beside = on_good e (λ (b : Beside us k after_looking q). record { room = b.room; sets = b.sets; rooted = b.rooted; passed = b.passed; steady = b.steady }) a.beside;
        went = on_good e (λ (b : Went us above k new a.gone a.made after_looking q). record {
          replanted = b.replanted;
          rewired = b.rewired;
          gone_is = b.gone_is;
          made_is = b.made_is;
          woken = woken_looked p.readers p.values after_looking.values q.values q.marks us (n, refl) b.woken;
        }) a.went;
        replaced = a.replaced;
      }
