-- What is planned for one line, and for one line more.
use Rattle.std.proofs.Common.{◌≡◌, inl, inr, Bool, ℕ, ◌+◌, ◌<◌, true, false, List, [], ◌∷◌, ◌++◌, length, map, Option, None, refl, sym, ◌∙◌, ap, subst, arith}
use Rattle.std.proofs.lemmas.List.{map-append}
use Rattle.ftn_addr.specs.Address.{Address}
use Rattle.ftn_addr.specs.Limits.{IsAddress}
use Rattle.ftn_addr.specs.declared.source_file.Action.{Action}
use Rattle.flow_file.specs.Item.{FlowItem, Send, flow_items}
use Rattle.flow_file.specs.Views.{item}
use Rattle.flow_file.specs.declared.item.FlowLine.{FlowLine}
use Rattle.node_model.specs.declared.store.NewFile.{NewFile}
use Rattle.node_model.specs.declared.store.OutStat.{OutStat}
use Rattle.node_model.specs.declared.store.Staged.TheVariants.{Copied, Absent, Over}
use Rattle.node_model.specs.declared.words.Flavour.{Flavour}
use Rattle.node_model.specs.Lists.{Each}
use Rattle.node_model.proofs.Lists.{Each-append, Each-weaker, off}
use Rattle.node_model.specs.Outside.{OutFile, OutFiles}
use Rattle.node_model.specs.Stocks.{NewEntry}
use Rattle.node_model.specs.StoreWords.{FitsQueue, NumbersRise, entry_of}
use Rattle.outbound_model.specs.declared.fate.Fate.{Fate}
use Rattle.outbound_model.specs.declared.fate.Fate.TheVariants as F
use Rattle.outbound_model.specs.Fates.{CanQueue, lines_of, sent_entry, unless_mark}
use Rattle.outbound_model.specs.Outbound.{Outbound}
use Rattle.outbound_take.specs.declared.words.Line.{Line}
use Rattle.outbound_take.specs.declared.words.Line.TheVariants as L
use Rattle.outbound_take.specs.declared.lines.Plan.TheVariants as P
use Rattle.outbound_take.specs.Calls.{AreNew, IsLike, IsStaged, StagesAt, StagesMore, bodies_of}
use Rattle.outbound_take.specs.Plans.{Answers, IsFiled, PlanIs, PlanStages, Planned, PlansFate, file_for}
use Rattle.outbound_take.specs.Stand.{Content, Memory}

-- One line.

pub plan_absent : (dest : Address) (flavour : Flavour) (s : Outbound) (i : FlowItem) (action : Action) (path : List ℕ) (old new : Option Content) → i ≡ Send action path → StagesAt path Absent s old new → PlanIs dest flavour s.outside i (P.Is F.Missing) old new
plan_absent dest flavour s i action path old new is h = (subst (λ (x : FlowItem). PlansFate s.outside x F.Missing) (sym is) (inr h.0), h.1)

pub plan_none : (dest : Address) (flavour : Flavour) (s : Outbound) (i : FlowItem) (action : Action) (path : List ℕ) (c : Option Content) → i ≡ Send action path → (CanQueue path → ⊥) → PlanIs dest flavour s.outside i (P.Is F.Missing) c c
plan_none dest flavour s i action path c is cannot = (subst (λ (x : FlowItem). PlansFate s.outside x F.Missing) (sym is) (inl cannot), refl)

pub plan_over : (dest : Address) (flavour : Flavour) (s : Outbound) (i : FlowItem) (action : Action) (path : List ℕ) (old new : Option Content) → i ≡ Send action path → CanQueue path → StagesAt path Over s old new → PlanIs dest flavour s.outside i (P.Is F.Over) old new
plan_over dest flavour s i action path old new is can h = (subst (λ (x : FlowItem). PlansFate s.outside x F.Over) (sym is) (can, h.0), h.1)

-- the file that is to be queued, where its copy has that size and time
filed_as : (dest : Address) (flavour : Flavour) (action : Action) (path : List ℕ) (file : OutFile) (n : ℕ) (stat : OutStat) (e : NewEntry) → stat ≡ record { size = length file.bytes; time = file.time } → e ≡ file_for n dest path stat action flavour → e ≡ sent_entry dest flavour action path file n
filed_as dest flavour action path file n stat e stat_is made = made ∙ ap (λ (x : OutStat). file_for n dest path x action flavour) stat_is

pub plan_copied : (dest : Address) (flavour : Flavour) (s : Outbound) (i : FlowItem) (action : Action) (path : List ℕ) (n : ℕ) (stat : OutStat) (f : NewFile) (old new : Option Content) → i ≡ Send action path → CanQueue path → StagesAt path (Copied n stat) s old new → entry_of f ≡ file_for n dest path stat action flavour → PlanIs dest flavour s.outside i (P.File f) old new
plan_copied dest flavour s i action path n stat f old new is can (file, stands, small, stat_is, staged) made = go (entry_of f) (filed_as dest flavour action path file n stat (entry_of f) stat_is made)
  where
    go : (e : NewEntry) → e ≡ sent_entry dest flavour action path file n → IsFiled dest flavour i s.outside (bodies_of new) e × ((m : ℕ) → (m ≡ e.number → ⊥) → bodies_of new m ≡ bodies_of old m)
    go e same = subst (λ (x : NewEntry). IsFiled dest flavour i s.outside (bodies_of new) x × ((m : ℕ) → (m ≡ x.number → ⊥) → bodies_of new m ≡ bodies_of old m)) (sym same)
        (record { file = file; item_is = is; can = can; stands = stands; is = refl; body = staged.here }, staged.others)

pub stages_copied : (dest : Address) (flavour : Flavour) (action : Action) (path : List ℕ) (n : ℕ) (stat : OutStat) (f : NewFile) (old new : Memory) → IsAddress dest → CanQueue path → StagesMore n stat.size old new → entry_of f ≡ file_for n dest path stat action flavour → PlanStages (P.File f) old new
stages_copied dest flavour action path n stat f old new whom can more made = go (entry_of f) made
  where
    go : (e : NewEntry) → e ≡ file_for n dest path stat action flavour → FitsQueue e × StagesMore e.number e.key.size old new
    go e same = subst (λ (x : NewEntry). FitsQueue x × StagesMore x.number x.key.size old new) (sym same)
        (record { dest = whom; key = record { some = can.some; short = can.short }; source = can.within }, more)

-- One line more.

planned_fate : (dest : Address) (flavour : Flavour) (outside : OutFiles) (bodies : ℕ → Option (List ℕ)) (is : List FlowItem) (ls : List Line) (fs : List NewEntry) (i : FlowItem) (fate : Fate) → Planned dest flavour outside bodies is ls fs → PlansFate outside i fate → Planned dest flavour outside bodies (is ++ i ∷ []) (ls ++ L.Is fate ∷ []) fs
planned_fate dest flavour outside bodies [] [] [] i fate p h = (h, tt)
planned_fate dest flavour outside bodies (x ∷ is) (L.Is y ∷ ls) fs i fate p h = (p.0, planned_fate dest flavour outside bodies is ls fs i fate p.1 h)
planned_fate dest flavour outside bodies (x ∷ is) (L.File ∷ ls) (f ∷ fs) i fate p h = (p.0, planned_fate dest flavour outside bodies is ls fs i fate p.1 h)
planned_fate dest flavour outside bodies [] [] (f ∷ fs) i fate p h = absurd p
planned_fate dest flavour outside bodies [] (L.Is y ∷ ls) fs i fate p h = absurd p
planned_fate dest flavour outside bodies [] (L.File ∷ ls) fs i fate p h = absurd p
planned_fate dest flavour outside bodies (x ∷ is) [] fs i fate p h = absurd p
planned_fate dest flavour outside bodies (x ∷ is) (L.File ∷ ls) [] i fate p h = absurd p

planned_file : (dest : Address) (flavour : Flavour) (outside : OutFiles) (bodies : ℕ → Option (List ℕ)) (is : List FlowItem) (ls : List Line) (fs : List NewEntry) (i : FlowItem) (f : NewEntry) → Planned dest flavour outside bodies is ls fs → IsFiled dest flavour i outside bodies f → Planned dest flavour outside bodies (is ++ i ∷ []) (ls ++ L.File ∷ []) (fs ++ f ∷ [])
planned_file dest flavour outside bodies [] [] [] i f p h = (h, tt)
planned_file dest flavour outside bodies (x ∷ is) (L.Is y ∷ ls) fs i f p h = (p.0, planned_file dest flavour outside bodies is ls fs i f p.1 h)
planned_file dest flavour outside bodies (x ∷ is) (L.File ∷ ls) (g ∷ fs) i f p h = (p.0, planned_file dest flavour outside bodies is ls fs i f p.1 h)
planned_file dest flavour outside bodies [] [] (g ∷ fs) i f p h = absurd p
planned_file dest flavour outside bodies [] (L.Is y ∷ ls) fs i f p h = absurd p
planned_file dest flavour outside bodies [] (L.File ∷ ls) fs i f p h = absurd p
planned_file dest flavour outside bodies (x ∷ is) [] fs i f p h = absurd p
planned_file dest flavour outside bodies (x ∷ is) (L.File ∷ ls) [] i f p h = absurd p

-- what was staged under other numbers is so still
planned_later : (dest : Address) (flavour : Flavour) (outside : OutFiles) (old new : ℕ → Option (List ℕ)) (n : ℕ) → ((m : ℕ) → (m ≡ n → ⊥) → new m ≡ old m)
    → (is : List FlowItem) (ls : List Line) (fs : List NewEntry) → Each (λ (f : NewEntry). f.number ≡ n → ⊥) fs → Planned dest flavour outside old is ls fs → Planned dest flavour outside new is ls fs
planned_later dest flavour outside old new n others [] [] [] far p = tt
planned_later dest flavour outside old new n others (x ∷ is) (L.Is y ∷ ls) fs far p = (p.0, planned_later dest flavour outside old new n others is ls fs far p.1)
planned_later dest flavour outside old new n others (x ∷ is) (L.File ∷ ls) (f ∷ fs) far p =
    (record { file = p.0.file; item_is = p.0.item_is; can = p.0.can; stands = p.0.stands; is = p.0.is; body = others f.number far.0 ∙ p.0.body }, planned_later dest flavour outside old new n others is ls fs far.1 p.1)
planned_later dest flavour outside old new n others [] [] (g ∷ fs) far p = absurd p
planned_later dest flavour outside old new n others [] (L.Is y ∷ ls) fs far p = absurd p
planned_later dest flavour outside old new n others [] (L.File ∷ ls) fs far p = absurd p
planned_later dest flavour outside old new n others (x ∷ is) [] fs far p = absurd p
planned_later dest flavour outside old new n others (x ∷ is) (L.File ∷ ls) [] far p = absurd p

items_more : (xs : List FlowLine) (line : FlowLine) → map unless_mark (map item (xs ++ line ∷ [])) ≡ map unless_mark (map item xs) ++ unless_mark (item line) ∷ []
items_more xs line = ap (map unless_mark) (map-append item xs (line ∷ [])) ∙ map-append unless_mark (map item xs) (item line ∷ [])

-- the numbers so far are others than the next one
far_below : (m : Memory) (n : ℕ) (fs : List NewEntry) → n ≡ m.last + 1 → Each (IsStaged m) fs → Each (λ (f : NewEntry). f.number ≡ n → ⊥) fs
far_below m n fs next staged = Each-weaker (IsStaged m) (λ (f : NewEntry). f.number ≡ n → ⊥) (λ f h same. omega (arith, same, next, h.1)) fs staged

new_like : (fs : List NewEntry) (old new : Memory) → new ≡ old → AreNew fs old → AreNew fs new
new_like fs old new same h = subst (AreNew fs) (sym same) h

rise_more : (fs : List NewEntry) (f : NewEntry) → NumbersRise fs → Each (λ (g : NewEntry). g.number < f.number) fs → NumbersRise (fs ++ f ∷ [])
rise_more [] f rise below = (tt, tt)
rise_more (g ∷ fs) f rise below = (Each-append (λ (h : NewEntry). g.number < h.number) fs (f ∷ []) rise.0 (below.0, tt), rise_more fs f rise.1 below.1)

new_more : (fs : List NewEntry) (f : NewEntry) (old new : Memory) → AreNew fs old → FitsQueue f → StagesMore f.number f.key.size old new → AreNew (fs ++ f ∷ []) new
new_more fs f old new h fits more = record {
  limits = Each-append FitsQueue fs (f ∷ []) h.limits (fits, tt);
  staged = Each-append (IsStaged new) fs (f ∷ [])
      (Each-weaker (IsStaged old) (IsStaged new) (λ g s. (more.others g.number (λ same. omega (arith, same, more.is, s.1)) ∙ s.0, omega (arith, s.1, more.is, more.last))) fs h.staged)
      ((more.here, omega (arith, more.last)), tt);
  rise = rise_more fs f h.rise (Each-weaker (IsStaged old) (λ (g : NewEntry). g.number < f.number) (λ g s. omega (arith, s.1, more.is)) fs h.staged);
}

pub new_fate : (fs hs : List NewFile) (fate : Fate) (old new : Memory) → AreNew (map entry_of fs) old → PlanStages (P.Is fate) old new → hs ≡ fs → AreNew (map entry_of hs) new
new_fate fs hs fate old new h stays files = subst (λ (xs : List NewFile). AreNew (map entry_of xs) new) (sym files) (new_like (map entry_of fs) old new stays h)

pub new_file : (fs hs : List NewFile) (f : NewFile) (old new : Memory) → AreNew (map entry_of fs) old → PlanStages (P.File f) old new → hs ≡ fs ++ f ∷ [] → AreNew (map entry_of hs) new
new_file fs hs f old new h stages files =
    subst (λ (xs : List NewFile). AreNew (map entry_of xs) new) (sym files)
    (subst (λ (xs : List NewEntry). AreNew xs new) (sym (map-append entry_of fs (f ∷ []))) (new_more (map entry_of fs) (entry_of f) old new h stages.0 stages.1))

pub plan_more_fate : (dest : Address) (flavour : Flavour) (outside : OutFiles) (old new : Option Content) (xs : List FlowLine) (line : FlowLine) (i : FlowItem) (ls ms : List Line) (fs hs : List NewFile) (fate : Fate)
    → Planned dest flavour outside (bodies_of old) (map unless_mark (map item xs)) ls (map entry_of fs) → i ≡ unless_mark (item line) → PlanIs dest flavour outside i (P.Is fate) old new → ms ≡ ls ++ L.Is fate ∷ [] → hs ≡ fs
    → Planned dest flavour outside (bodies_of new) (map unless_mark (map item (xs ++ line ∷ []))) ms (map entry_of hs)
plan_more_fate dest flavour outside old new xs line i ls ms fs hs fate p is h lines files =
    subst (λ (zs : List FlowItem). Planned dest flavour outside (bodies_of new) zs ms (map entry_of hs)) (sym (items_more xs line))
    (subst (λ (zs : List Line). Planned dest flavour outside (bodies_of new) (map unless_mark (map item xs) ++ unless_mark (item line) ∷ []) zs (map entry_of hs)) (sym lines)
    (subst (λ (gs : List NewFile). Planned dest flavour outside (bodies_of new) (map unless_mark (map item xs) ++ unless_mark (item line) ∷ []) (ls ++ L.Is fate ∷ []) (map entry_of gs)) (sym files)
    (planned_fate dest flavour outside (bodies_of new) (map unless_mark (map item xs)) ls (map entry_of fs) (unless_mark (item line)) fate
    (subst (λ (c : Option Content). Planned dest flavour outside (bodies_of c) (map unless_mark (map item xs)) ls (map entry_of fs)) (sym h.1) p)
    (subst (λ (x : FlowItem). PlansFate outside x fate) is h.0))))

pub plan_more_file : (dest : Address) (flavour : Flavour) (outside : OutFiles) (old new : Option Content) (om nm : Memory) (xs : List FlowLine) (line : FlowLine) (i : FlowItem) (ls ms : List Line) (fs hs : List NewFile) (f : NewFile)
    → Planned dest flavour outside (bodies_of old) (map unless_mark (map item xs)) ls (map entry_of fs) → AreNew (map entry_of fs) om → PlanStages (P.File f) om nm → i ≡ unless_mark (item line) → PlanIs dest flavour outside i (P.File f) old new → ms ≡ ls ++ L.File ∷ [] → hs ≡ fs ++ f ∷ []
    → Planned dest flavour outside (bodies_of new) (map unless_mark (map item (xs ++ line ∷ []))) ms (map entry_of hs)
plan_more_file dest flavour outside old new om nm xs line i ls ms fs hs f p staged stages is h lines files =
    subst (λ (zs : List FlowItem). Planned dest flavour outside (bodies_of new) zs ms (map entry_of hs)) (sym (items_more xs line))
    (subst (λ (zs : List Line). Planned dest flavour outside (bodies_of new) (map unless_mark (map item xs) ++ unless_mark (item line) ∷ []) zs (map entry_of hs)) (sym lines)
    (subst (λ (gs : List NewEntry). Planned dest flavour outside (bodies_of new) (map unless_mark (map item xs) ++ unless_mark (item line) ∷ []) (ls ++ L.File ∷ []) gs) (sym (ap (map entry_of) files ∙ map-append entry_of fs (f ∷ [])))
    (planned_file dest flavour outside (bodies_of new) (map unless_mark (map item xs)) ls (map entry_of fs) (unless_mark (item line)) (entry_of f)
    (planned_later dest flavour outside (bodies_of old) (bodies_of new) f.number h.1 (map unless_mark (map item xs)) ls (map entry_of fs) (far_below om f.number (map entry_of fs) stages.1.is staged.staged) p)
    (subst (λ (x : FlowItem). IsFiled dest flavour x outside (bodies_of new) (entry_of f)) is h.0))))

pub like_on : (a b c : Memory) → IsLike a b → IsLike b c → IsLike a c
like_on a b c f g = record { left = g.left ∙ f.left; drawn = g.drawn ∙ f.drawn; undone = g.undone ∙ f.undone; broken = g.broken }

pub like_same : (a b : Memory) → a.broken ≡ None → b ≡ a → IsLike a b
like_same a b whole same = subst (IsLike a) (sym same) (record { left = refl; drawn = refl; undone = refl; broken = whole })

pub like_more : (n size : ℕ) (a b : Memory) → StagesMore n size a b → IsLike a b
like_more n size a b more = record { left = more.left; drawn = more.drawn; undone = more.undone; broken = more.broken }

pub like_copied : (n size : ℕ) (st : OutStat) (a b : Memory) → StagesMore n st.size a b → IsLike a b
like_copied n size st a b more = like_more n st.size a b more

-- the path can be queued, where that was tested and answered so
pub can_be : (p q : List ℕ) (b : Bool) → q ≡ p → b ≡ true → Answers (CanQueue q) b → CanQueue p
can_be p q true same tested can = subst CanQueue same can
can_be p q false same tested cannot = off (sym tested)

-- The lines of a take that was read.

pub lines_read : (xs : List FlowLine) (bytes part : List ℕ) → map item xs ≡ flow_items part → part ≡ bytes → map unless_mark (map item xs) ≡ lines_of bytes
lines_read xs bytes part read is = ap (map unless_mark) (read ∙ ap flow_items is)
