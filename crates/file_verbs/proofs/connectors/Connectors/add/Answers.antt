use Rattle.std.proofs.Common.{[], ◌∷◌, ◌++◌, refl, sym, ap, subst, ◌∙◌}
use Rattle.std.proofs.lemmas.List.{map-append}
use Rattle.std.specs.Prelude.{is_some}
use Rattle.records.specs.Connector.{Connector, entry_of}
use Rattle.records.specs.declared.fault.StoreFault.TheVariants.{Memory}
use Rattle.records.specs.declared.select.Select.{Select}
use Rattle.file_verbs.specs.Connections.{AreLinked, entry, connector, entries_of, connectors_of}
use Rattle.file_verbs.proofs.Calling.{none_on}
use Rattle.file_verbs.proofs.Doing.{err_any}
use Rattle.file_verbs.proofs.Connected.{added}
use Rattle.file_verbs.proofs.connectors.Connectors.add.Goals as goal

pub returns-clause-wider : goal.returns-clause-wider
returns-clause-wider g c = record {
  needs = refl;
  spent = refl;
  stands = λ disk files stands. (
    stands.0,
    subst (AreLinked files) (sym c.in_ok-push.ensures.items) (added files c.args.self.now.links.items
        c.in_ok-linked.linked (ap is_some c.in_ok-linked.ensures.shut) stands.1),
  );
}

pub returns-clause-entries : goal.returns-clause-entries
returns-clause-entries g c =
    ap entries_of c.in_ok-push.ensures.items
    ∙ map-append entry c.args.self.now.links.items (c.in_ok-linked.linked ∷ [])
    ∙ ap (λ (s : Select). entries_of c.args.self.now.links.items ++ entry_of s ∷ []) c.in_ok-linked.ensures.select

pub returns-clause-connectors : goal.returns-clause-connectors
returns-clause-connectors g c =
    ap connectors_of c.in_ok-push.ensures.items
    ∙ map-append connector c.args.self.now.links.items (c.in_ok-linked.linked ∷ [])
    ∙ ap (λ (x : Connector). connectors_of c.args.self.now.links.items ++ x ∷ []) c.in_ok-linked.ensures.closed

pub returns-in_err-linked-clause-entries : goal.returns-in_err-linked-clause-entries
returns-in_err-linked-clause-entries g c =
    none_on _ c.from_residual.result c.in_err-linked.field-0.0 c.from_residual.ensures.1

pub returns-in_err-linked-clause-connectors : goal.returns-in_err-linked-clause-connectors
returns-in_err-linked-clause-connectors g c =
    none_on _ c.from_residual.result c.in_err-linked.field-0.0 c.from_residual.ensures.1

pub returns-in_err-linked-clause-same : goal.returns-in_err-linked-clause-same
returns-in_err-linked-clause-same g c = err_any c.from_residual.result (refl, refl)

pub returns-in_err-linked-clause-wider : goal.returns-in_err-linked-clause-wider
returns-in_err-linked-clause-wider g c =
    record { needs = refl; spent = refl; stands = λ disk files stands. stands }

pub returns-in_err-push-clause-entries : goal.returns-in_err-push-clause-entries
returns-in_err-push-clause-entries g c =
    none_on _ c.from_residual-in_err-push.result Memory c.from_residual-in_err-push.ensures.1

pub returns-in_err-push-clause-connectors : goal.returns-in_err-push-clause-connectors
returns-in_err-push-clause-connectors g c =
    none_on _ c.from_residual-in_err-push.result Memory c.from_residual-in_err-push.ensures.1
