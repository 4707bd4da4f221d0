-- What the line of a run tells of a manager that is told.
use Rattle.std.proofs.Common.{◌≡◌, ℕ, List, [], ◌∷◌, decimal, sym, ◌∙◌, subst, arith}
use Rattle.ix_values.specs.PlainAction.{PlainAction, text_of}
use Rattle.ix_values.proofs.TextsApart.{texts_apart}
use Rattle.ix_outside.specs.SinkState.{SinkState}
use Rattle.ix_client.specs.Client.{ClientEnds, NamesAsk, Runs, Serves, bad_words, serves, usage}
use Rattle.ix_client.specs.ClientLaws.{TellsDone, TellsRefused}
use Rattle.ix_client.specs.Endings.{PutsLine, part, whole}
use Rattle.ix_client.specs.Links.{LinkState}
use Rattle.ix_client.specs.declared.ended.Ended.{Ended}
use Rattle.ix_client.specs.declared.ended.Ended.TheVariants as ended
use Rattle.ix_client.proofs.ClientCauses.{of_ask}
use Rattle.ix_client.proofs.RefusalLemmas.{refusals_last}
use Rattle.ix_client.proofs.RunLemmas.{done_runs_are_permanent}

-- words name one action alone
one_action : (words : List (List ℕ)) (a b : PlainAction) (lease other : ℕ) → NamesAsk words a lease → NamesAsk words b other → b ≡ a
one_action words a b lease other names named =
    texts_apart b a named.action names.action
    (second named.socket names.socket (text_of b) (text_of a) (decimal other ∷ []) (decimal lease ∷ []) (sym named.words_are ∙ names.words_are))
  where
    second : (s t x y : List ℕ) (us vs : List (List ℕ)) → s ∷ x ∷ us ≡ t ∷ y ∷ vs → x ≡ y
    second s t x y us vs e = cc

-- a run of words that name an ask is that ask's
asks : (words : List (List ℕ)) (a : PlainAction) (lease : ℕ) (how : Ended) (s u : LinkState) → NamesAsk words a lease
    → Runs words how s u → (least : ℕ) × Serves a least how s u
asks words a lease how s u names (usage none is same) = absurd (no_words names.socket (text_of a ∷ decimal lease ∷ []) (sym names.words_are ∙ none))
  where
    no_words : (x : List ℕ) (xs : List (List ℕ)) → x ∷ xs ≡ [] → ⊥
    no_words x xs e = cc
asks words a lease how s u names (bad_words some none is same) = absurd (none a lease names)
asks words a lease how s u names (serves b other named run) =
    (other, subst (λ (c : PlainAction). Serves c other how s u) (one_action words a b lease other names named) run)

told_done : (a : PlainAction) (lease : ℕ) (how : Ended) (status : ℕ) (s u : LinkState) (before after : SinkState)
    → Serves a lease how s u → PutsLine how status before after → status ≡ 0 → TellsDone a s u before after
told_done a lease how status s u before after run (part is rose text) zero_is = absurd (omega (arith, is, zero_is))
told_done a lease (ended.Done number) status s u before after run (whole is text) zero_is = record {
  number = number;
  line = text;
  lasts = λ was now over. done_runs_are_permanent s u was now a lease number over run;
}
told_done a lease ended.Usage status s u before after run (whole is text) zero_is = absurd (of_ask a lease ended.Usage s u run)
told_done a lease _ status s u before after run (whole is text) zero_is = absurd (omega (arith, is, zero_is))

told_refused : (a : PlainAction) (lease : ℕ) (how : Ended) (status : ℕ) (s u : LinkState) (before after : SinkState)
    → Serves a lease how s u → PutsLine how status before after → status ≡ 3 → TellsRefused a s u before after
told_refused a lease how status s u before after run (part is rose text) three_is = absurd (omega (arith, is, three_is))
told_refused a lease (ended.Refused code) status s u before after run (whole is text) three_is = record {
  code = code;
  line = text;
  lasts = λ was now over. refusals_last s u was now a lease code over run;
}
told_refused a lease _ status s u before after run (whole is text) three_is = absurd (omega (arith, is, three_is))

module _ (words : List (List ℕ)) (status : ℕ) (s u : LinkState) (before after : SinkState) (run : ClientEnds words status s u before after) where
  pub told_run : (a : PlainAction) (lease : ℕ) → NamesAsk words a lease → status ≡ 0 → TellsDone a s u before after
  told_run a lease names is =
      let of = asks words a lease run.how s u names run.runs in
      told_done a of.0 run.how status s u before after of.1 run.puts is

  pub refused_run : (a : PlainAction) (lease : ℕ) → NamesAsk words a lease → status ≡ 3 → TellsRefused a s u before after
  refused_run a lease names is =
      let of = asks words a lease run.how s u names run.runs in
      told_refused a of.0 run.how status s u before after of.1 run.puts is
