pub mod PulseLaws
