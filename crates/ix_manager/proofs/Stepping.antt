-- What each request makes of the machine, by what its parts answer.
use Rattle.std.proofs.Common.{◌≡◌, ◌↔◌, ℕ, zero, suc, ◌+◌, ◌-◌, ◌^◌, ◌<◌, ◌≤◌, min, Bool, true, false, List, [], ◌∷◌, ◌++◌, length, get_or, map, Option, Some, None, Vec, IsTrue, refl, sym, ◌∙◌, ap, subst, true≢false, arith, inl, inr, length-append, Ok}
use Rattle.std.proofs.lemmas.List.{length-map}
use Rattle.std.specs.declared.alloc.Global.{Global}
use Rattle.std.specs.List.{position, zip}
use Rattle.std.proofs.lemmas.Slice.Zip.{seconds-zip}
use Rattle.ix_words.specs.Each.{Each, no_item, item}
use Rattle.ix_values.specs.PlainAction.{PlainAction, Word}
use Rattle.ix_values.specs.declared.tickets.Ticket.{Ticket}
use Rattle.ix_journal.specs.History.{Spent}
use Rattle.ix_journal.specs.declared.entries.Renewed.{Renewed}
use Rattle.ix_expr.specs.Meaning.{IsPartial, IsComplete}
use Rattle.ix_can.specs.TreeOf.{tree_size}
use Rattle.ix_engine.specs.Allowed.{IsAllowed, IsPermitted}
use Rattle.ix_engine.specs.Histories.{IsRefused}
use Rattle.ix_engine.specs.inside.Engine.{EngineState, Allows, extended_by}
use Rattle.ix_engine.specs.declared.faults.PrepareFault.{PrepareFault}
use Rattle.ix_engine.specs.declared.faults.PrepareFault.TheVariants.{NotPartial, Full, Over, Memory}
use Rattle.ix_engine.specs.declared.next.Next.{Next}
use Rattle.ix_lease.specs.Slots.{IsOpenAt, HasTicket}
use Rattle.ix_lease.specs.inside.Takes.{IsOpenUntil}
use Rattle.ix_lease.specs.declared.Slot.{Slot}
use Rattle.ix_lease.specs.declared.Slot.TheVariants.{Free, Held}
use Rattle.ix_watch.specs.inside.Watches.{PlainWatch, is_watched, AreDistinct, told_to, new_watch, without}
use Rattle.ix_watch.specs.inside.Added.{Adds}
use Rattle.ix_watch.specs.declared.Added.{Added}
use Rattle.ix_watch.specs.declared.Added.TheVariants.{New, Again}
use Rattle.ix_proto.specs.Requests as request
use Rattle.ix_proto.specs.Requests.{PlainRequest}
use Rattle.ix_proto.specs.inside.ReplyTexts.{CanBeTold}
use Rattle.ix_proto.specs.declared.reply.Outcome.TheVariants as became
use Rattle.ix_proto.specs.declared.reply.Reply.{Reply}
use Rattle.ix_proto.specs.declared.reply.Reply.TheVariants as reply
use Rattle.ix_manager.specs.Machine as machine
use Rattle.ix_manager.specs.Machine.{Step, MachineWatch, MachineState, Tells, IsUnwatched, HasNoWatch}
use Rattle.ix_manager.specs.Machine.{IsAbsent, IsOpenWith, IsUngranted, next_ticket, word_of}
use Rattle.ix_manager.specs.inside.Core.{Core, core_watch, IsRefreshed, TellsPoll}
use Rattle.ix_manager.specs.inside.Ready.{IsReadyFor, has_ticket}
use Rattle.ix_manager.specs.inside.Refused.{refusal_of_fault, reply_of}
use Rattle.ix_manager.specs.inside.Does.{Does, Refreshes, IsNoted, AddsTold}
use Rattle.ix_store.proofs.Pairing.{zip-push}
use Rattle.ix_manager.proofs.Keeping.{kept_at, not_kept}
use Rattle.ix_manager.proofs.WatchLists.{found, unwatched, unwatched-told, without_none, map_between, map_both, length-watches}
use Rattle.ix_manager.proofs.Polling.{polls_refreshed}
use Rattle.ix_manager.proofs.Refreshing.{tells_of}

-- the machine of its parts
abbrev pub core_of : EngineState → List (Option Ticket) → Slot → List PlainWatch → ℕ → Renewed → ℕ → ℕ → Core
core_of engine tickets slot watches moment renewed boot number = record {
  form = engine.form;
  limit = engine.limit;
  state = record {
    history = zip tickets engine.history;
    renewed = renewed;
    slot = slot;
    watches = map core_watch watches;
    moment = moment;
    boot = boot;
    number = number;
  };
  noted = watches;
}

-- an entry of a word, with what stands before it and behind it
record EntryParts (w : Word) (index : ℕ) (a : PlainAction) : Type 0 where
  before : Word
  behind : Word
  same : w ≡ before ++ a ∷ behind
  place : length before ≡ index

entry_parts : (w : Word) (index : ℕ) (a : PlainAction) → index < length w → a ≡ get_or w index a → EntryParts w index a
entry_parts [] index a within is = absurd (omega arith)
entry_parts (b ∷ w) zero a within is = record { before = []; behind = w; same = ap (λ c. c ∷ w) (sym is); place = refl }
entry_parts (b ∷ w) (suc index) a within is =
    let rest = entry_parts w index a (omega arith) is in
    record { before = b ∷ rest.before; behind = rest.behind; same = ap (λ v. b ∷ v) rest.same; place = ap suc rest.place }

-- nothing changes
pub unchanged : (core : Core) (request : PlainRequest) (one : Reply) → Step core.form core.limit core.state request (one ∷ []) core.state → CanBeTold one
    → Does core request one core
unchanged core request one step told = record { step = step; told = told; form = refl; limit = refl }

-- the same of a machine and a reply that have another spelling
pub seen : (core core' : Core) (request : PlainRequest) (one one' : Reply) (new : Core) → core ≡ core' → one' ≡ one
    → Does core request one new → Does core' request one' new
seen core core' request one one' new same told does =
    subst (λ (r : Reply). Does core' request r new) (sym told) (subst (λ (k : Core). Does k request one new) same does)

-- how far the machine is ahead, in another spelling
pub ahead_is : (core core' : Core) (n : ℕ) → n ≡ machine.ahead_of core'.state.renewed → core ≡ core'
    → n ≡ machine.ahead_of core.state.renewed
ahead_is core core' n value same = value ∙ ap (λ (c : Core). machine.ahead_of c.state.renewed) (sym same)

-- the same where nothing changes
pub seen_same : (core core' : Core) (request : PlainRequest) (one one' : Reply) → core ≡ core' → one' ≡ one
    → Does core request one core → Does core' request one' core'
seen_same core core' request one one' same told does =
    subst (λ (r : Reply). Does core' request r core') (sym told) (subst (λ (k : Core). Does k request one k) same does)

-- the action of a reservation is the one that is prepared
pub ready_action : (engine : EngineState) (tickets : Vec (Option Ticket) Global) (slot : Slot) (pending : Option Next)
    (ticket : Ticket) (a : PlainAction) (deadline : ℕ) (next : Next)
    → IsReadyFor engine tickets slot pending → slot ≡ Held ticket a deadline → pending ≡ Some next → next.action ≡ a
ready_action engine tickets slot pending ticket a deadline next ready held is =
    (subst (λ (s : Slot). IsReadyFor engine tickets s (Some next)) held
    (subst (λ (p : Option Next). IsReadyFor engine tickets slot p) is ready)).0.same

-- and there is room for it
pub ready_room : (engine : EngineState) (tickets : Vec (Option Ticket) Global) (slot : Slot) (pending : Option Next)
    (ticket : Ticket) (a : PlainAction) (deadline : ℕ)
    → IsReadyFor engine tickets slot pending → slot ≡ Held ticket a deadline → length engine.history < 1000000
ready_room engine tickets slot None ticket a deadline ready held =
    absurd (subst (λ (s : Slot). IsReadyFor engine tickets s None) held ready)
ready_room engine tickets slot (Some next) ticket a deadline ready held =
    (subst (λ (s : Slot). IsReadyFor engine tickets s (Some next)) held ready).0.follows.room

-- a reservation is open
pub busy_does : (core : Core) (a : PlainAction) (lease deadline : ℕ) → IsOpenUntil core.state.slot core.state.moment deadline
    → Does core (request.ask a lease) (reply.Refused 20 deadline) core
busy_does core a lease deadline within =
    unchanged core (request.ask a lease) (reply.Refused 20 deadline) (by_slot core.state.slot refl within)
    (record { listed = refl; zero_else = λ h. absurd (true≢false h) })
  where
    by_slot : (slot : Slot) → core.state.slot ≡ slot → IsOpenUntil slot core.state.moment deadline
        → Step core.form core.limit core.state (request.ask a lease) (reply.Refused 20 deadline ∷ []) core.state
    by_slot Free is h = elim h [ ]
    by_slot (Held ticket held end) is h =
        machine.busy held ticket (is ∙ ap (λ n. Held ticket held n) h.0) (subst (λ n. core.state.moment < n) h.0 h.1)

module _ (engine : EngineState) (tickets : List (Option Ticket)) (slot : Slot) (watches : List PlainWatch)
    (moment : ℕ) (renewed : Renewed) (boot number : ℕ) (each : length tickets ≡ length engine.history) where
  -- the machine before
  abbrev old : Core
  old = core_of engine tickets slot watches moment renewed boot number

  -- its actions are the engine's
  pub words : word_of old.state ≡ engine.history
  words = seconds-zip tickets engine.history (sym each)

  pub counts : length old.state.history ≡ length engine.history
  counts = sym (length-map old.state.history (λ (spent : Spent). spent.1)) ∙ ap length words

  -- what holds of the engine's actions holds of the machine's
  of_words : (P : Word → Type 0) → P engine.history → P (word_of old.state)
  of_words P = subst P (sym words)

  tells_allowed : (a : PlainAction) (answer : Bool) → Tells (Allows engine a) answer
      → Tells (IsAllowed engine.form engine.limit (word_of old.state) a) answer
  tells_allowed a answer = of_words (λ (w : Word). Tells (IsAllowed engine.form engine.limit w a) answer)

  -- the step, where the new state has another spelling
  along : (f : EngineState) (tickets' : List (Option Ticket)) (slot' : Slot) (watches' : List PlainWatch) (number' : ℕ)
      (state : MachineState) (request : PlainRequest) (one : Reply)
      → f.form ≡ engine.form → f.limit ≡ engine.limit
      → (core_of f tickets' slot' watches' moment renewed boot number').state ≡ state → CanBeTold one
      → Step engine.form engine.limit old.state request (one ∷ []) state
      → Does old request one (core_of f tickets' slot' watches' moment renewed boot number')
  along f tickets' slot' watches' number' state request one form limit same told step = record {
    step = subst (λ (s : MachineState). Step engine.form engine.limit old.state request (one ∷ []) s) (sym same) step;
    told = told;
    form = form;
    limit = limit;
  }

  -- the action isn't prepared
  pub refused_does : (f : EngineState) (tickets' : List (Option Ticket)) (a : PlainAction) (lease : ℕ) (why : PrepareFault)
      → f.form ≡ engine.form → f.history ≡ engine.history → f.limit ≡ engine.limit → tickets' ≡ tickets
      → ¬ IsOpenAt slot moment → IsRefused engine.form engine.limit engine.history a why
      → Does old (request.ask a lease) (reply_of (refusal_of_fault why)) (core_of f tickets' Free watches moment renewed boot number)
  refused_does f tickets' a lease why p q r t free refuses =
      along f tickets' Free watches number (record old.state { slot = Free }) (request.ask a lease) (reply_of (refusal_of_fault why)) p r
      (λ i. record old.state { history = zip (t i) (q i); slot = Free }) (told why) (step why refuses)
    where
      told : (why : PrepareFault) → CanBeTold (reply_of (refusal_of_fault why))
      told NotPartial = record { listed = refl; zero_else = λ e. refl }
      told Full = record { listed = refl; zero_else = λ e. refl }
      told (Over l) = record { listed = refl; zero_else = λ e. absurd (true≢false e) }
      told Memory = record { listed = refl; zero_else = λ e. refl }

      permits : IsPermitted engine.form engine.history a → IsPermitted engine.form (word_of old.state) a
      permits = of_words (λ (w : Word). IsPermitted engine.form w a)

      room : length engine.history < 1000000 → length old.state.history < 1000000
      room = subst (λ n. n < 1000000) (sym counts)

      Answers : Reply → Type 0
      Answers one = Step engine.form engine.limit old.state (request.ask a lease) (one ∷ []) (record old.state { slot = Free })

      step : (why : PrepareFault) → IsRefused engine.form engine.limit engine.history a why → Answers (reply_of (refusal_of_fault why))
      step NotPartial h = machine.not_permitted free (of_words (λ (w : Word). ¬ IsPermitted engine.form w a) h)
      step Full h = machine.full free (permits h.0) (counts ∙ h.1)
      step (Over l) h = subst (λ n. Answers (reply.Refused 22 n)) (sym h.0) (machine.large free (permits h.1) (room h.2)
          (of_words (λ (w : Word). engine.limit < tree_size engine.form (w ++ a ∷ [])) h.3))
      step Memory h = machine.ask_memory free (permits h.0) (room h.1)

  pub granted_does : (f : EngineState) (tickets' : List (Option Ticket)) (a : PlainAction) (lease deadline : ℕ)
      → f.form ≡ engine.form → f.history ≡ engine.history → f.limit ≡ engine.limit → tickets' ≡ tickets
      → ¬ IsOpenAt slot moment → Allows engine a → deadline ≡ min (moment + lease) (2 ^ 64 - 1)
      → Does old (request.ask a lease) (reply.Granted (next_ticket old.state))
      (core_of f tickets' (Held (next_ticket old.state) a deadline) watches moment renewed boot (number + 1))
  granted_does f tickets' a lease deadline p q r t free allowed until =
      along f tickets' (Held (next_ticket old.state) a deadline) watches (number + 1)
      (record old.state { slot = Held (next_ticket old.state) a (min (moment + lease) (2 ^ 64 - 1)); number = number + 1 })
      (request.ask a lease) (reply.Granted (next_ticket old.state)) p r
      (λ i. record old.state { history = zip (t i) (q i); slot = Held (next_ticket old.state) a (until i); number = number + 1 })
      tt (machine.granted free (of_words (λ (w : Word). IsAllowed engine.form engine.limit w a) allowed))

  pub confirmed_does : (f : EngineState) (tickets' : List (Option Ticket)) (slot' : Slot) (ticket : Ticket) (a b : PlainAction)
      (deadline count : ℕ) → f.form ≡ engine.form → f.limit ≡ engine.limit
      → f.history ≡ extended_by engine b → tickets' ≡ tickets ++ Some ticket ∷ [] → b ≡ a
      → count ≡ machine.count_of renewed (zip tickets' f.history)
      → slot ≡ Held ticket a deadline → moment < deadline → slot' ≡ Free
      → Does old (request.confirm ticket) (reply.Confirmed count) (core_of f tickets' slot' watches moment renewed boot number)
  confirmed_does f tickets' slot' ticket a b deadline count p r q t same counted held within free =
      let grown : f.history ≡ engine.history ++ a ∷ [] = q ∙ ap (λ c. engine.history ++ c ∷ []) same in
      let history : zip tickets' f.history ≡ old.state.history ++ (Some ticket, a) ∷ [] =
      ap (λ ts. zip ts f.history) t ∙ ap (zip (tickets ++ Some ticket ∷ [])) grown
      ∙ zip-push tickets engine.history (Some ticket) a each in
      let many : count ≡ machine.count old.state + 1 =
      omega (arith, counted, ap length history, length-append old.state.history ((Some ticket, a) ∷ [])) in
      subst (λ n. Does old (request.confirm ticket) (reply.Confirmed n) (core_of f tickets' slot' watches moment renewed boot number)) (sym many)
      (along f tickets' slot' watches number (record old.state { history = old.state.history ++ (Some ticket, a) ∷ []; slot = Free })
      (request.confirm ticket) (reply.Confirmed (machine.count old.state + 1)) p r
      (λ i. record old.state { history = history i; slot = free i }) tt (machine.confirmed a deadline held within))

  pub cancelled_does : (slot' : Slot) (ticket : Ticket) (a : PlainAction) (deadline : ℕ)
      → slot ≡ Held ticket a deadline → moment < deadline → slot' ≡ Free
      → Does old (request.cancel ticket) (reply.Cancelled ticket) (core_of engine tickets slot' watches moment renewed boot number)
  cancelled_does slot' ticket a deadline held within free =
      along engine tickets slot' watches number (record old.state { slot = Free }) (request.cancel ticket) (reply.Cancelled ticket) refl refl
      (λ i. record old.state { slot = free i }) tt (machine.cancelled a deadline held within)

  -- a refusal that leaves the slot, which has another spelling
  kept_slot : (slot' : Slot) (request : PlainRequest) (one : Reply) → slot' ≡ slot → CanBeTold one
      → Step engine.form engine.limit old.state request (one ∷ []) old.state
      → Does old request one (core_of engine tickets slot' watches moment renewed boot number)
  kept_slot slot' request one same told step =
      along engine tickets slot' watches number old.state request one refl refl
      (λ i. record old.state { slot = same i }) told step

  pub confirm_expired_does : (slot' : Slot) (ticket : Ticket) → HasTicket slot ticket → ¬ IsOpenAt slot moment → slot' ≡ slot
      → Does old (request.confirm ticket) (reply.Refused 31 0) (core_of engine tickets slot' watches moment renewed boot number)
  confirm_expired_does slot' ticket has closed same =
      kept_slot slot' (request.confirm ticket) (reply.Refused 31 0) same (record { listed = refl; zero_else = λ e. refl }) (machine.confirm_expired has closed)

  pub confirm_no_such_does : (slot' : Slot) (ticket : Ticket) → ¬ HasTicket slot ticket → slot' ≡ slot
      → Does old (request.confirm ticket) (reply.Refused 30 0) (core_of engine tickets slot' watches moment renewed boot number)
  confirm_no_such_does slot' ticket not same =
      kept_slot slot' (request.confirm ticket) (reply.Refused 30 0) same (record { listed = refl; zero_else = λ e. refl }) (machine.confirm_no_such not)

  pub cancel_expired_does : (slot' : Slot) (ticket : Ticket) → HasTicket slot ticket → ¬ IsOpenAt slot moment → slot' ≡ slot
      → Does old (request.cancel ticket) (reply.Refused 31 0) (core_of engine tickets slot' watches moment renewed boot number)
  cancel_expired_does slot' ticket has closed same =
      kept_slot slot' (request.cancel ticket) (reply.Refused 31 0) same (record { listed = refl; zero_else = λ e. refl }) (machine.cancel_expired has closed)

  pub cancel_no_such_does : (slot' : Slot) (ticket : Ticket) → ¬ HasTicket slot ticket → slot' ≡ slot
      → Does old (request.cancel ticket) (reply.Refused 30 0) (core_of engine tickets slot' watches moment renewed boot number)
  cancel_no_such_does slot' ticket not same =
      kept_slot slot' (request.cancel ticket) (reply.Refused 30 0) same (record { listed = refl; zero_else = λ e. refl }) (machine.cancel_no_such not)

  -- a step that changes the watches alone
  with_watches : (watches' : List PlainWatch) (new : List MachineWatch) (request : PlainRequest) (one : Reply)
      → map core_watch watches' ≡ new → CanBeTold one
      → Step engine.form engine.limit old.state request (one ∷ []) (record old.state { watches = new })
      → Does old request one (core_of engine tickets slot watches' moment renewed boot number)
  with_watches watches' new request one same told step =
      along engine tickets slot watches' number (record old.state { watches = new }) request one refl refl
      (λ i. record old.state { watches = same i }) told step

  pub watching_does : (watches' : List PlainWatch) (name : List ℕ) (a : PlainAction) (told : Bool) → AddsTold engine name a watches told watches'
      → Does old (request.watch name a) (reply.Watching told) (core_of engine tickets slot watches' moment renewed boot number)
  watching_does watches' name a told adds = by_place adds.added adds.adds
    where
      by_place : (added : Added) → Adds watches name a told (Ok added) watches'
          → Does old (request.watch name a) (reply.Watching told) (core_of engine tickets slot watches' moment renewed boot number)
      by_place New h =
          with_watches watches' (map core_watch watches ++ record { name = name; action = a; told = told } ∷ [])
          (request.watch name a) (reply.Watching told)
          (ap (map core_watch) h.2 ∙ map_between watches (new_watch name a told) []) tt
          (machine.watches_new (unwatched name a watches h.0) (omega (arith, length-watches watches, h.1)) (tells_allowed a told adds.tells))
      by_place Again h =
          let there = found name a told watches adds.distinct h.0 in
          with_watches watches' (map core_watch there.before ++ record (core_watch there.watch) { told = told } ∷ map core_watch there.behind)
          (request.watch name a) (reply.Watching told)
          (ap (map core_watch) (h.1 ∙ there.again) ∙ map_between there.before (record there.watch { told = told; now = told }) there.behind) tt
          (machine.watches_again (map core_watch there.before) (map core_watch there.behind) (core_watch there.watch)
          (ap (map core_watch) there.same ∙ map_between there.before there.watch there.behind) there.is (tells_allowed a told adds.tells))

  pub watches_full_does : (watches' : List PlainWatch) (name : List ℕ) (a : PlainAction) → is_watched name a watches ≡ false → length watches ≡ 4096 → watches' ≡ watches
      → Does old (request.watch name a) (reply.Refused 40 0) (core_of engine tickets slot watches' moment renewed boot number)
  watches_full_does watches' name a none many same =
      with_watches watches' (map core_watch watches) (request.watch name a) (reply.Refused 40 0) (ap (map core_watch) same) (record { listed = refl; zero_else = λ e. refl })
      (machine.watches_full (unwatched name a watches none) (length-watches watches ∙ many))

  pub watch_memory_does : (watches' : List PlainWatch) (name : List ℕ) (a : PlainAction) → (is_watched name a watches ≡ false → length watches < 4096) → watches' ≡ watches
      → Does old (request.watch name a) (reply.Refused 90 0) (core_of engine tickets slot watches' moment renewed boot number)
  watch_memory_does watches' name a room same =
      with_watches watches' (map core_watch watches) (request.watch name a) (reply.Refused 90 0) (ap (map core_watch) same) (record { listed = refl; zero_else = λ e. refl })
      (machine.watch_memory (λ none. let few = room (unwatched-told name a watches none) in omega (arith, length-watches watches, few)))

  pub dropped_does : (watches' : List PlainWatch) (name : List ℕ) (a : PlainAction) → AreDistinct watches → is_watched name a watches ≡ true → watches' ≡ without name a watches
      → Does old (request.drop_watch name a) reply.Dropped (core_of engine tickets slot watches' moment renewed boot number)
  dropped_does watches' name a distinct is same =
      let there = found name a true watches distinct is in
      with_watches watches' (map core_watch there.before ++ map core_watch there.behind) (request.drop_watch name a) reply.Dropped
      (ap (map core_watch) (same ∙ there.others) ∙ map_both there.before there.behind) tt
      (machine.dropped (map core_watch there.before) (map core_watch there.behind) (core_watch there.watch)
      (ap (map core_watch) there.same ∙ map_between there.before there.watch there.behind) there.is)

  pub no_such_watch_does : (watches' : List PlainWatch) (name : List ℕ) (a : PlainAction) → is_watched name a watches ≡ false → watches' ≡ without name a watches
      → Does old (request.drop_watch name a) (reply.Refused 41 0) (core_of engine tickets slot watches' moment renewed boot number)
  no_such_watch_does watches' name a none same =
      with_watches watches' (map core_watch watches) (request.drop_watch name a) (reply.Refused 41 0) (ap (map core_watch) (same ∙ without_none name a watches none))
      (record { listed = refl; zero_else = λ e. refl }) (machine.drop_no_such (unwatched name a watches none))

  pub poll_memory_does : (watches' : List PlainWatch) (name : List ℕ) → map core_watch watches' ≡ map core_watch watches → ¬ HasNoWatch name (map core_watch watches)
      → Does old (request.poll name) (reply.Refused 90 0) (core_of engine tickets slot watches' moment renewed boot number)
  poll_memory_does watches' name same has =
      with_watches watches' (map core_watch watches) (request.poll name) (reply.Refused 90 0) same (record { listed = refl; zero_else = λ e. refl }) (machine.poll_memory has)

  pub refreshes : (watches' : List PlainWatch) (name : List ℕ) → map core_watch watches' ≡ map core_watch watches → IsNoted engine name watches'
      → Refreshes old name (core_of engine tickets slot watches' moment renewed boot number)
  refreshes watches' name same noted = record {
    state = λ i. record old.state { watches = same i };
    refreshed = all watches' noted;
    form = refl;
    limit = refl;
  }
    where
      all : (rest : List PlainWatch) → IsNoted engine name rest
          → Each (λ (watch : PlainWatch). watch.name ≡ name → Tells (IsAllowed engine.form engine.limit (word_of old.state) watch.action) watch.now) rest
      all [] none = no_item
      all (watch ∷ rest) (item tells others) =
          item (λ named. tells_allowed watch.action watch.now (tells named)) (all rest others)

  pub tells_poll : (watches' : List PlainWatch) (name : List ℕ) → watches' ≡ told_to name watches → IsRefreshed old name
      → TellsPoll old name (core_of engine tickets slot watches' moment renewed boot number)
  tells_poll watches' name same refreshed =
      subst (λ (ws : List PlainWatch). TellsPoll old name (core_of engine tickets slot ws moment renewed boot number)) (sym same) (record {
        polls = polls_refreshed (IsAllowed engine.form engine.limit (word_of old.state)) name watches refreshed;
        rest = refl;
        form = refl;
        limit = refl;
      })

  pub may_does : (a : PlainAction) (answer : Bool) → IsTrue answer ↔ IsPartial engine.form [] (extended_by engine a)
      → Does old (request.may a) (reply.May answer) old
  may_does a answer both = unchanged old (request.may a) (reply.May answer)
      (machine.may (of_words (λ (w : Word). Tells (IsPermitted engine.form w a) answer) (tells_of answer both))) tt

  pub status_does : (complete : Bool) (count nodes : ℕ) → IsTrue complete ↔ IsComplete engine.form [] engine.history
      → count ≡ machine.count old.state → nodes ≡ tree_size engine.form engine.history
      → Does old request.status (reply.Status complete count nodes) old
  status_does complete count nodes both counted sized =
      let size_is : nodes ≡ tree_size engine.form (word_of old.state) = sized ∙ ap (tree_size engine.form) (sym words) in
      unchanged old request.status (reply.Status complete count nodes)
      (subst (λ n. Step engine.form engine.limit old.state request.status (reply.Status complete n nodes ∷ []) old.state) (sym counted)
      (subst (λ n. Step engine.form engine.limit old.state request.status (reply.Status complete (machine.count old.state) n ∷ []) old.state) (sym size_is)
      (machine.status (of_words (λ (w : Word). Tells (IsComplete engine.form [] w) complete) (tells_of complete both))))) tt

  pub entry_does : (place index : ℕ) (a : PlainAction) → place ≡ machine.ahead_of renewed + index + 1 → renewed.actions < place
      → index < length engine.history → a ≡ get_or engine.history index a
      → Does old (request.log place) (reply.Entry place a) old
  entry_does place index a next above within there =
      let parts = entry_parts engine.history index a within there in
      unchanged old (request.log place) (reply.Entry place a)
      (machine.entry parts.before parts.behind (words ∙ parts.same) (omega (arith, next, parts.place)) above) tt

  pub entry_left_out_does : (place : ℕ) → 0 < place → place ≤ renewed.actions
      → Does old (request.log place) (reply.Refused 33 0) old
  entry_left_out_does place some within =
      unchanged old (request.log place) (reply.Refused 33 0) (machine.entry_left_out some within)
      (record { listed = refl; zero_else = λ e. refl })

  pub no_entry_does : (place index : ℕ) → place ≡ machine.ahead_of renewed + index + 1 → length engine.history ≤ index
      → Does old (request.log place) (reply.Refused 42 0) old
  no_entry_does place index next behind =
      unchanged old (request.log place) (reply.Refused 42 0) (machine.no_such_entry (inr (let n = counts in omega (arith, n, next, behind)))) (record { listed = refl; zero_else = λ e. refl })

  -- a ticket that is kept at this index
  pub outcome_confirmed_does : (ticket : Ticket) (index place : ℕ) → position (has_ticket ticket) tickets ≡ Some index
      → place ≡ machine.ahead_of renewed + index + 1
      → Does old (request.outcome ticket) (reply.Outcome (became.Confirmed place)) old
  outcome_confirmed_does ticket index place found next =
      let parts = kept_at ticket tickets engine.history index each found in
      unchanged old (request.outcome ticket) (reply.Outcome (became.Confirmed place))
      (machine.outcome_confirmed parts.before parts.behind parts.action parts.same (omega (arith, next, parts.place))) tt

  module _ (ticket : Ticket) (none : position (has_ticket ticket) tickets ≡ None) where
    absent : IsAbsent ticket old.state.history
    absent = not_kept ticket tickets engine.history none

    pub outcome_open_does : IsOpenWith slot moment ticket → Does old (request.outcome ticket) (reply.Outcome became.Waiting) old
    outcome_open_does open_with =
        unchanged old (request.outcome ticket) (reply.Outcome became.Waiting) (machine.outcome_open absent open_with) tt

    pub outcome_no_such_does : ¬ IsOpenWith slot moment ticket → IsUngranted boot number ticket
        → Does old (request.outcome ticket) (reply.Refused 30 0) old
    outcome_no_such_does closed ungranted =
        unchanged old (request.outcome ticket) (reply.Refused 30 0) (machine.outcome_no_such absent closed ungranted)
        (record { listed = refl; zero_else = λ e. refl })

    pub outcome_left_out_does : ¬ IsOpenWith slot moment ticket → ¬ IsUngranted boot number ticket
        → ticket.boot ≤ renewed.boots → Does old (request.outcome ticket) (reply.Refused 32 0) old
    outcome_left_out_does closed granted before =
        unchanged old (request.outcome ticket) (reply.Refused 32 0) (machine.outcome_left_out absent closed granted before)
        (record { listed = refl; zero_else = λ e. refl })

    pub outcome_never_does : ¬ IsOpenWith slot moment ticket → ¬ IsUngranted boot number ticket
        → renewed.boots < ticket.boot → Does old (request.outcome ticket) (reply.Outcome became.Never) old
    outcome_never_does closed granted later =
        unchanged old (request.outcome ticket) (reply.Outcome became.Never)
        (machine.outcome_never absent closed granted later) tt

-- no entry has the number 0
pub zeroth_does : (core : Core) (number : ℕ) → number ≡ 0 → Does core (request.log number) (reply.Refused 42 0) core
zeroth_does core number none =
    unchanged core (request.log number) (reply.Refused 42 0) (machine.no_such_entry (inl none)) (record { listed = refl; zero_else = λ e. refl })
