-- A note is removed where it stands.
use Rattle.std.proofs.Common.{◌≡◌, inl, inr, ℕ, List, [], Option, Some, None, Result, Ok, Err, refl, sym, ◌∙◌, ap, subst}
use Rattle.ftn_addr.specs.declared.byte_list.Bytes.{Bytes}
use Rattle.std.specs.Prelude.{IfOk, OnOk, length, option_map, take, drop, unwrap_or}
use Rattle.std.proofs.Math.Seq.{take-length}
use Rattle.disk_model.specs.World.{World}
use Rattle.disk_model.specs.Changes.{AtOnce, Every, Follows, Same, OnOwn, Puts}
use Rattle.disk_model.specs.Moments.{Now, Leaves, Steps}
use Rattle.disk_model.proofs.MomentLemmas.{started, goes_on, weakened, same_now}
use Rattle.busy_marks.specs.Undoing.{NoteGoes, NoteMayGo, MayRemoveNote, RemovesNote, noted_path}

may_go : {T E : Type 0} (result : Result T E) (bytes own : List ℕ) (d c : World) → AtOnce result (λ _. OnOwn (Puts own None)) d c → NoteMayGo (Some bytes) own d c
may_go (Ok v) bytes own d c gone = inr gone
may_go (Err e) bytes own d c (inl same) = inl same
may_go (Err e) bytes own d c (inr gone) = inr gone.1

went : {E : Type 0} (result : Result (Unit {0}) E) (bytes own : List ℕ) (a b : World → Type 0) → Follows (AtOnce result (λ _. OnOwn (Puts own None))) a b → OnOk result (Follows (OnOwn (NoteGoes (Some bytes) own)) a b)
went (Ok v) bytes own a b follows = follows
went (Err e) bytes own a b follows = tt

module _ {D : Type 0} (files : D → World → Type 0) (moment : D → ℕ) (images : D → ℕ → World → Type 0) (own : List ℕ) (d0 d1 : D) (looked : Every (files d1) (files d0)) (looks : Steps moment images Same d0 d1) where
  same_leaves : (step : World → World → Type 0) → ((c : World) → step c c) → Leaves moment images step d0 d1
  same_leaves step same = goes_on moment images Same step d0 d0 d1 (started moment images step d0 (λ c now. same c)) looks
      (λ c now. let was = looks.now c now in (was.0, was.1, subst (λ (w : World). step was.0 w) (sym was.2) (same was.0)))

  -- it stood, and is removed
  module _ {E : Type 0} (d2 : D) (result : Result (Unit {0}) E) (read : Follows (AtOnce result (λ _. OnOwn (Puts own None))) (files d1) (files d2)) (stop : Steps moment images (AtOnce result (λ _. OnOwn (Puts own None))) d1 d2) where
    read_before : Follows (AtOnce result (λ _. OnOwn (Puts own None))) (files d0) (files d2)
    read_before c now = let was = read c now in (was.0, looked was.0 was.1, was.2)

    left_before : Follows (AtOnce result (λ _. OnOwn (Puts own None))) (Now moment images d0) (Now moment images d2)
    left_before c now = let was = stop.now c now in (was.0, same_now moment images d0 d1 looks was.0 was.1, was.2)

    removes_stop : (bytes : List ℕ) → Leaves moment images (NoteMayGo (Some bytes) own) d0 d2
    removes_stop bytes = goes_on moment images (AtOnce result (λ _. OnOwn (Puts own None))) (NoteMayGo (Some bytes) own) d0 d1 d2
        (same_leaves (NoteMayGo (Some bytes) own) (λ c. inl refl)) stop
        (λ c now. let was = left_before c now in (was.0, was.1, may_go result bytes own was.0 c was.2))

    pub removed_stop : Leaves moment images (MayRemoveNote own) d0 d2
    removed_stop = weakened moment images (NoteMayGo (Some []) own) (MayRemoveNote own) d0 d2 (λ d c now step. (Some [], step)) (removes_stop [])

    pub removes : (stood : Option (List ℕ)) (bytes : List ℕ) → stood ≡ Some bytes → RemovesNote {E = E} files moment images result stood own d0 d2
    removes stood bytes is = subst (λ (o : Option (List ℕ)). RemovesNote {E = E} files moment images result o own d0 d2) (sym is) (record {
      stop = removes_stop bytes;
      read = λ c now. let was = read_before c now in (was.0, was.1, may_go result bytes own was.0 c was.2);
      gone = went result bytes own (files d0) (files d2) read_before;
      lasts = went result bytes own (Now moment images d0) (Now moment images d2) left_before;
    })

-- A look found so many bytes.

pub note_of : (stood : Option (List ℕ)) (len : Option ℕ) (n : ℕ) → len ≡ Some n → len ≡ option_map length stood → (bytes : List ℕ) × (stood ≡ Some bytes)
note_of None len n is told = absurd (cc (is, told))
note_of (Some bytes) len n is told = (bytes, refl)

-- What was read of them is the path that is noted.
pub path_read : (files : World → Type 0) (own : List ℕ) (len n : ℕ) (out path : List ℕ) → n ≡ len → path ≡ out
    → Every files (λ w. Some len ≡ option_map length (w.own own)) → Every files (λ w. (b : List ℕ) → w.own own ≡ Some b → out ≡ take n (drop 0 b)) → Every files (λ w. path ≡ noted_path own w)
path_read files own len n out path size same stands told w read = so (w.own own) (stands w read) (told w read)
  where
    so : (stood : Option (List ℕ)) → Some len ≡ option_map length stood → ((b : List ℕ) → stood ≡ Some b → out ≡ take n (drop 0 b)) → path ≡ unwrap_or stood []
    so None is says = absurd (cc is)
    so (Some bytes) is says =
        let long : len ≡ length bytes = cc is in
        same ∙ says bytes refl ∙ ap (λ (k : ℕ). take k bytes) (size ∙ long) ∙ take-length bytes

-- It is so before a call that changed nothing.
pub path_before : {E : Type 0} (before after : World → Type 0) (own : List ℕ) (result : Result Bytes E) → ((w : World) → before w → after w)
    → IfOk result (λ path. Every after (λ w. path.list ≡ noted_path own w)) → IfOk result (λ path. Every before (λ w. path.list ≡ noted_path own w))
path_before before after own (Ok path) on says = λ w read. says w (on w read)
path_before before after own (Err e) on says = tt
