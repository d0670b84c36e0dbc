-- The laws of a login.
use Rattle.std.proofs.Common.{◌≡◌, ℕ, Bool, true, false, not, List, [], ◌∷◌, codes, Option, Some, None, refl, ap, subst, inl, inr}
use Rattle.std.specs.Prelude.{filter, if◌then◌else◌}
use Rattle.ftn_addr.specs.Address.{Address}
use Rattle.binkp_args.specs.Command.{CommandText, Nul, Adr, Pwd, File, Accept, Eob, Got, Error, Bsy, Get, Skip, Other}
use Rattle.cram_md5.specs.Answer.{answer, is_answer}
use Rattle.cram_md5.specs.Offer.{Offered, Absent, Md5, offer_of}
use Rattle.session_auth.specs.declared.steps.LoginFault.TheVariants.{NoAddress, NotCalled, OutOfTurn}
use Rattle.session_auth.specs.Laws.{AreSome, IsHidden, IsSent, KeepsSome, LetsInBy, SecureBy, addresses_at, announced_by}
use Rattle.session_auth.specs.Login.{Terms, Stage, Awaits_address, Awaits_password, Awaits_word, More, In, Bad_password, Peer_error, Peer_busy, Broke, Reply, breaks, enters, fault_text, judged, met, named, early_password, early_word, reply_to, says}
use Rattle.session_auth.specs.Passwords.{is_among, is_password, hidden_password, later_offer, password_for, shares, spoken_password, wanted_password, without_own}
use Rattle.session_auth.specs.Sides.{Side, Answers, Calls}

-- In where a password was checked.

checked : (t : Terms) (peers stay : List Address) (given : List ℕ) (secure : Bool) (wanted : Option (List ℕ)) → wanted_password t.conf peers ≡ wanted → (judged t peers given wanted).step ≡ In stay secure → SecureBy t peers given secure
checked t peers stay given true None e h = absurd (let clash : In peers false ≡ In stay true = h in cc)
checked t peers stay given false None e h = e
checked t peers stay given secure (Some password) e h = go (is_answer password t.challenge given) refl h
  where
    go : (right : Bool) → is_answer password t.challenge given ≡ right → (if right then enters (filter (shares t.conf password) peers) true else says (Error (codes "bad password")) (Bad_password (answer password t.challenge) given)).step ≡ In stay secure → SecureBy t peers given secure
    go true r k = (let all : In (filter (shares t.conf password) peers) true ≡ In stay secure = k in let same : true ≡ secure = cc in subst (λ (b : Bool). SecureBy t peers given b) same (record { password = password; wanted = e; right = r }))
    go false r k = absurd (let clash : Bad_password (answer password t.challenge) given ≡ In stay secure = k in cc)

pub lets_in_by : (t : Terms) (peers stay : List Address) (command : CommandText) (secure : Bool) → (reply_to t (Awaits_password peers) command).step ≡ In stay secure → LetsInBy t peers command secure
lets_in_by t peers stay (Nul text) secure h = absurd (let clash : More (Awaits_password peers) ≡ In stay secure = h in cc)
lets_in_by t peers stay (Adr addresses) secure h = absurd (let clash : More (Awaits_password peers) ≡ In stay secure = h in cc)
lets_in_by t peers stay (Pwd text) secure h = checked t peers stay text secure (wanted_password t.conf peers) refl h
lets_in_by t peers stay (File key offset) secure h = absurd (let clash : Broke OutOfTurn ≡ In stay secure = h in cc)
lets_in_by t peers stay (Accept text) secure h = absurd (let clash : More (Awaits_password peers) ≡ In stay secure = h in cc)
lets_in_by t peers stay Eob secure h = absurd (let clash : Broke OutOfTurn ≡ In stay secure = h in cc)
lets_in_by t peers stay (Got key) secure h = absurd (let clash : Broke OutOfTurn ≡ In stay secure = h in cc)
lets_in_by t peers stay (Error text) secure h = absurd (let clash : Peer_error text ≡ In stay secure = h in cc)
lets_in_by t peers stay (Bsy text) secure h = absurd (let clash : Peer_busy ≡ In stay secure = h in cc)
lets_in_by t peers stay (Get key offset) secure h = absurd (let clash : Broke OutOfTurn ≡ In stay secure = h in cc)
lets_in_by t peers stay (Skip key) secure h = absurd (let clash : Broke OutOfTurn ≡ In stay secure = h in cc)
lets_in_by t peers stay (Other number) secure h = absurd (let clash : More (Awaits_password peers) ≡ In stay secure = h in cc)

-- In where a password was sent.

abbrev Speaks : Terms → Offered → Reply → List Address → Bool → Type 0
Speaks t offer reply peers secure = reply.step ≡ More (Awaits_word peers secure) → IsSent t offer reply.said secure

spoken : (t : Terms) (side : Side) (offer : Offered) (others peers : List Address) (secure : Bool) → t.side ≡ side → Speaks t offer (met t side offer others) peers secure
spoken t Answers offer others peers secure e h = absurd (let clash : More (Awaits_password others) ≡ More (Awaits_word peers secure) = h in cc)
spoken t (Calls called) offer others peers secure e h = go (is_among called others) h
  where
    go : (met_called : Bool) → Speaks t offer (if met_called then says (Pwd (spoken_password (password_for t.conf called) offer)) (More (Awaits_word others (is_password (password_for t.conf called)))) else breaks NotCalled) peers secure
    go true h = record { called = called; side = e; said_is = refl; secure_is = (let same : More (Awaits_word others (is_password (password_for t.conf called))) ≡ More (Awaits_word peers secure) = h in cc) }
    go false h = absurd (let clash : Broke NotCalled ≡ More (Awaits_word peers secure) = h in cc)

spoken_named : (t : Terms) (offer : Offered) (others peers : List Address) (secure : Bool) → Speaks t offer (named t offer others) peers secure
spoken_named t offer [] peers secure h = absurd (let clash : Broke NoAddress ≡ More (Awaits_word peers secure) = h in cc)
spoken_named t offer (first ∷ others) peers secure h = spoken t t.side offer (first ∷ others) peers secure refl h

spoken_early : (t : Terms) (side : Side) (offer : Offered) (peers : List Address) (secure : Bool) → Speaks t offer (early_password side offer) peers secure
spoken_early t Answers offer peers secure h = absurd (let clash : Broke OutOfTurn ≡ More (Awaits_word peers secure) = h in cc)
spoken_early t (Calls called) offer peers secure h = absurd (let clash : More (Awaits_address offer) ≡ More (Awaits_word peers secure) = h in cc)

spoken_word : (t : Terms) (side : Side) (offer : Offered) (peers : List Address) (secure : Bool) → Speaks t offer (early_word side offer) peers secure
spoken_word t Answers offer peers secure h = absurd (let clash : More (Awaits_address offer) ≡ More (Awaits_word peers secure) = h in cc)
spoken_word t (Calls called) offer peers secure h = absurd (let clash : Broke OutOfTurn ≡ More (Awaits_word peers secure) = h in cc)

pub sent_where_secure : (t : Terms) (offer : Offered) (command : CommandText) (peers : List Address) (secure : Bool) → Speaks t offer (reply_to t (Awaits_address offer) command) peers secure
sent_where_secure t offer (Nul text) peers secure h = absurd (let clash : More (Awaits_address (later_offer offer (offer_of text))) ≡ More (Awaits_word peers secure) = h in cc)
sent_where_secure t offer (Adr addresses) peers secure h = spoken_named t offer (without_own t.conf.addresses addresses) peers secure h
sent_where_secure t offer (Pwd text) peers secure h = spoken_early t t.side offer peers secure h
sent_where_secure t offer (File key offset) peers secure h = absurd (let clash : Broke OutOfTurn ≡ More (Awaits_word peers secure) = h in cc)
sent_where_secure t offer (Accept text) peers secure h = spoken_word t t.side offer peers secure h
sent_where_secure t offer Eob peers secure h = absurd (let clash : Broke OutOfTurn ≡ More (Awaits_word peers secure) = h in cc)
sent_where_secure t offer (Got key) peers secure h = absurd (let clash : Broke OutOfTurn ≡ More (Awaits_word peers secure) = h in cc)
sent_where_secure t offer (Error text) peers secure h = absurd (let clash : Peer_error text ≡ More (Awaits_word peers secure) = h in cc)
sent_where_secure t offer (Bsy text) peers secure h = absurd (let clash : Peer_busy ≡ More (Awaits_word peers secure) = h in cc)
sent_where_secure t offer (Get key offset) peers secure h = absurd (let clash : Broke OutOfTurn ≡ More (Awaits_word peers secure) = h in cc)
sent_where_secure t offer (Skip key) peers secure h = absurd (let clash : Broke OutOfTurn ≡ More (Awaits_word peers secure) = h in cc)
sent_where_secure t offer (Other number) peers secure h = absurd (let clash : More (Awaits_address offer) ≡ More (Awaits_word peers secure) = h in cc)

pub secure_stays : (t : Terms) (peers stay : List Address) (was secure : Bool) (command : CommandText) → (reply_to t (Awaits_word peers was) command).step ≡ In stay secure → secure ≡ was
secure_stays t peers stay was secure (Nul text) h = absurd (let clash : More (Awaits_word peers was) ≡ In stay secure = h in cc)
secure_stays t peers stay was secure (Adr addresses) h = absurd (let clash : More (Awaits_word peers was) ≡ In stay secure = h in cc)
secure_stays t peers stay was secure (Pwd text) h = absurd (let clash : More (Awaits_word peers was) ≡ In stay secure = h in cc)
secure_stays t peers stay was secure (File key offset) h = absurd (let clash : Broke OutOfTurn ≡ In stay secure = h in cc)
secure_stays t peers stay was secure (Accept text) h = (let same : In peers was ≡ In stay secure = h in cc)
secure_stays t peers stay was secure Eob h = absurd (let clash : Broke OutOfTurn ≡ In stay secure = h in cc)
secure_stays t peers stay was secure (Got key) h = absurd (let clash : Broke OutOfTurn ≡ In stay secure = h in cc)
secure_stays t peers stay was secure (Error text) h = absurd (let clash : Peer_error text ≡ In stay secure = h in cc)
secure_stays t peers stay was secure (Bsy text) h = absurd (let clash : Peer_busy ≡ In stay secure = h in cc)
secure_stays t peers stay was secure (Get key offset) h = absurd (let clash : Broke OutOfTurn ≡ In stay secure = h in cc)
secure_stays t peers stay was secure (Skip key) h = absurd (let clash : Broke OutOfTurn ≡ In stay secure = h in cc)
secure_stays t peers stay was secure (Other number) h = absurd (let clash : More (Awaits_word peers was) ≡ In stay secure = h in cc)

-- Some of them, in their order.

every : (addresses : List Address) → addresses ≡ filter (λ a. true) addresses
every [] = refl
every (a ∷ more) = ap (λ (xs : List Address). a ∷ xs) (every more)

all_of : (addresses : List Address) → AreSome addresses addresses
all_of addresses = record { stays = λ a. true; are = every addresses }

some_met : (t : Terms) (side : Side) (offer : Offered) (addresses others : List Address) → AreSome addresses others → KeepsSome addresses (met t side offer others).step
some_met t Answers offer addresses others are = are
some_met t (Calls called) offer addresses others are = go (is_among called others)
  where
    go : (met_called : Bool) → KeepsSome addresses (if met_called then says (Pwd (spoken_password (password_for t.conf called) offer)) (More (Awaits_word others (is_password (password_for t.conf called)))) else breaks NotCalled).step
    go true = are
    go false = tt

some_named : (t : Terms) (offer : Offered) (addresses others : List Address) → AreSome addresses others → KeepsSome addresses (named t offer others).step
some_named t offer addresses [] are = tt
some_named t offer addresses (first ∷ others) are = some_met t t.side offer addresses (first ∷ others) are

some_early : (side : Side) (offer : Offered) (addresses : List Address) → KeepsSome addresses (early_password side offer).step
some_early Answers offer addresses = tt
some_early (Calls called) offer addresses = tt

some_word : (side : Side) (offer : Offered) (addresses : List Address) → KeepsSome addresses (early_word side offer).step
some_word Answers offer addresses = tt
some_word (Calls called) offer addresses = tt

some_judged : (t : Terms) (peers : List Address) (given : List ℕ) (wanted : Option (List ℕ)) → KeepsSome peers (judged t peers given wanted).step
some_judged t peers given None = all_of peers
some_judged t peers given (Some password) = go (is_answer password t.challenge given)
  where
    go : (right : Bool) → KeepsSome peers (if right then enters (filter (shares t.conf password) peers) true else says (Error (codes "bad password")) (Bad_password (answer password t.challenge) given)).step
    go true = record { stays = shares t.conf password; are = refl }
    go false = tt

pub keeps_some : (t : Terms) (stage : Stage) (command : CommandText) → KeepsSome (addresses_at stage (announced_by command)) (reply_to t stage command).step
keeps_some t (Awaits_address offer) (Nul text) = tt
keeps_some t (Awaits_address offer) (Adr addresses) = some_named t offer addresses (without_own t.conf.addresses addresses) (record { stays = λ a. not (is_among a t.conf.addresses); are = refl })
keeps_some t (Awaits_address offer) (Pwd text) = some_early t.side offer []
keeps_some t (Awaits_address offer) (File key offset) = tt
keeps_some t (Awaits_address offer) (Accept text) = some_word t.side offer []
keeps_some t (Awaits_address offer) Eob = tt
keeps_some t (Awaits_address offer) (Got key) = tt
keeps_some t (Awaits_address offer) (Error text) = tt
keeps_some t (Awaits_address offer) (Bsy text) = tt
keeps_some t (Awaits_address offer) (Get key offset) = tt
keeps_some t (Awaits_address offer) (Skip key) = tt
keeps_some t (Awaits_address offer) (Other number) = tt
keeps_some t (Awaits_password peers) (Nul text) = all_of peers
keeps_some t (Awaits_password peers) (Adr addresses) = all_of peers
keeps_some t (Awaits_password peers) (Pwd text) = some_judged t peers text (wanted_password t.conf peers)
keeps_some t (Awaits_password peers) (File key offset) = tt
keeps_some t (Awaits_password peers) (Accept text) = all_of peers
keeps_some t (Awaits_password peers) Eob = tt
keeps_some t (Awaits_password peers) (Got key) = tt
keeps_some t (Awaits_password peers) (Error text) = tt
keeps_some t (Awaits_password peers) (Bsy text) = tt
keeps_some t (Awaits_password peers) (Get key offset) = tt
keeps_some t (Awaits_password peers) (Skip key) = tt
keeps_some t (Awaits_password peers) (Other number) = all_of peers
keeps_some t (Awaits_word peers secure) (Nul text) = all_of peers
keeps_some t (Awaits_word peers secure) (Adr addresses) = all_of peers
keeps_some t (Awaits_word peers secure) (Pwd text) = all_of peers
keeps_some t (Awaits_word peers secure) (File key offset) = tt
keeps_some t (Awaits_word peers secure) (Accept text) = all_of peers
keeps_some t (Awaits_word peers secure) Eob = tt
keeps_some t (Awaits_word peers secure) (Got key) = tt
keeps_some t (Awaits_word peers secure) (Error text) = tt
keeps_some t (Awaits_word peers secure) (Bsy text) = tt
keeps_some t (Awaits_word peers secure) (Get key offset) = tt
keeps_some t (Awaits_word peers secure) (Skip key) = tt
keeps_some t (Awaits_word peers secure) (Other number) = all_of peers

-- No plain password at an offer.

abbrev Hides : List ℕ → List ℕ → Reply → Type 0
Hides challenge text reply = reply.said ≡ Pwd text ∷ [] → IsHidden challenge text

hidden_spoken : (password challenge : List ℕ) → IsHidden challenge (spoken_password password (Md5 challenge))
hidden_spoken password challenge = go (is_password password)
  where
    go : (some : Bool) → IsHidden challenge (if some then hidden_password password (Md5 challenge) else codes "-")
    go true = inr (password, refl)
    go false = inl refl

hidden_met : (t : Terms) (side : Side) (challenge text : List ℕ) (others : List Address) → Hides challenge text (met t side (Md5 challenge) others)
hidden_met t Answers challenge text others h = absurd (let clash : [] ≡ Pwd text ∷ [] = h in cc)
hidden_met t (Calls called) challenge text others h = go (is_among called others) h
  where
    go : (met_called : Bool) → Hides challenge text (if met_called then says (Pwd (spoken_password (password_for t.conf called) (Md5 challenge))) (More (Awaits_word others (is_password (password_for t.conf called)))) else breaks NotCalled)
    go true h = (let all : Pwd (spoken_password (password_for t.conf called) (Md5 challenge)) ∷ [] ≡ Pwd text ∷ [] = h in let same : spoken_password (password_for t.conf called) (Md5 challenge) ≡ text = cc in subst (λ (x : List ℕ). IsHidden challenge x) same (hidden_spoken (password_for t.conf called) challenge))
    go false h = absurd (let clash : Error (fault_text NotCalled) ∷ [] ≡ Pwd text ∷ [] = h in cc)

hidden_named : (t : Terms) (challenge text : List ℕ) (others : List Address) → Hides challenge text (named t (Md5 challenge) others)
hidden_named t challenge text [] h = absurd (let clash : Error (fault_text NoAddress) ∷ [] ≡ Pwd text ∷ [] = h in cc)
hidden_named t challenge text (first ∷ others) h = hidden_met t t.side challenge text (first ∷ others) h

hidden_early : (side : Side) (challenge text : List ℕ) → Hides challenge text (early_password side (Md5 challenge))
hidden_early Answers challenge text h = absurd (let clash : Error (fault_text OutOfTurn) ∷ [] ≡ Pwd text ∷ [] = h in cc)
hidden_early (Calls called) challenge text h = absurd (let clash : [] ≡ Pwd text ∷ [] = h in cc)

hidden_word : (side : Side) (challenge text : List ℕ) → Hides challenge text (early_word side (Md5 challenge))
hidden_word Answers challenge text h = absurd (let clash : [] ≡ Pwd text ∷ [] = h in cc)
hidden_word (Calls called) challenge text h = absurd (let clash : Error (fault_text OutOfTurn) ∷ [] ≡ Pwd text ∷ [] = h in cc)

pub hidden : (t : Terms) (challenge text : List ℕ) (command : CommandText) → Hides challenge text (reply_to t (Awaits_address (Md5 challenge)) command)
hidden t challenge text (Nul said) h = absurd (let clash : [] ≡ Pwd text ∷ [] = h in cc)
hidden t challenge text (Adr addresses) h = hidden_named t challenge text (without_own t.conf.addresses addresses) h
hidden t challenge text (Pwd said) h = hidden_early t.side challenge text h
hidden t challenge text (File key offset) h = absurd (let clash : Error (fault_text OutOfTurn) ∷ [] ≡ Pwd text ∷ [] = h in cc)
hidden t challenge text (Accept said) h = hidden_word t.side challenge text h
hidden t challenge text Eob h = absurd (let clash : Error (fault_text OutOfTurn) ∷ [] ≡ Pwd text ∷ [] = h in cc)
hidden t challenge text (Got key) h = absurd (let clash : Error (fault_text OutOfTurn) ∷ [] ≡ Pwd text ∷ [] = h in cc)
hidden t challenge text (Error said) h = absurd (let clash : [] ≡ Pwd text ∷ [] = h in cc)
hidden t challenge text (Bsy said) h = absurd (let clash : [] ≡ Pwd text ∷ [] = h in cc)
hidden t challenge text (Get key offset) h = absurd (let clash : Error (fault_text OutOfTurn) ∷ [] ≡ Pwd text ∷ [] = h in cc)
hidden t challenge text (Skip key) h = absurd (let clash : Error (fault_text OutOfTurn) ∷ [] ≡ Pwd text ∷ [] = h in cc)
hidden t challenge text (Other number) h = absurd (let clash : [] ≡ Pwd text ∷ [] = h in cc)

pub offer_stays : (t : Terms) (offer : Offered) (text : List ℕ) → offer_of text ≡ Absent → (reply_to t (Awaits_address offer) (Nul text)).step ≡ More (Awaits_address offer)
offer_stays t offer text none = ap (λ (o : Offered). More (Awaits_address (later_offer offer o))) none
